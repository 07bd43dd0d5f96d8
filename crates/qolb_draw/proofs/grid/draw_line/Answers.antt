use Rattle.std.proofs.Common.{arith, ◌≡◌, ◌<◌, ◌≤◌, ◌+◌, List, ◌++◌, replicate, length, get_or, refl, sym, ap, ◌∙◌, subst}
use Rattle.qolb_model.specs.declared.config.LineConfig.{LineConfig}
use Rattle.qolb_model.specs.Plain.{PlainView, Agrees}
use Rattle.qolb_model.specs.OneOwner.{opened}
use Rattle.qolb_script.specs.declared.command.Command.{Command}
use Rattle.qolb_script.specs.declared.command.Command.TheVariants.{Enq}
use Rattle.qolb_script.specs.Reply.{config_of}
use Rattle.qolb_draw.specs.declared.follow.TracedLine.{TracedLine}
use Rattle.qolb_draw.specs.declared.grid.Grid.{Grid}
use Rattle.qolb_model.specs.declared.answer.PortState.{PortState}
use Rattle.qolb_model.specs.declared.answer.PortState.TheVariants as port
use Rattle.qolb_draw.specs.Grids.{column_by}
use Rattle.qolb_draw.proofs.Drawn.{Stands, none_drawn, command_drawn, command_skipped, all_drawn, grid_size, config_is}
use Rattle.qolb_draw.proofs.grid.draw_line.Goals as goal
use Rattle.qolb_draw.proofs.grid.draw_line.Goals.{then-line-number+in_ok-change+in_ok-push, else-line-number}

pub loop-command-init : goal.loop-command-init
loop-command-init g c =
    none_drawn c.args.schedule.now c.args.number c.in_ok-line.line.line c.in_ok-line.line.waiting.items c.in_ok-line.line.states.items c.in_ok-line.line.closed c.new-grid.result.nodes c.new-grid.result.numbers.items c.new-grid.result.callers.items c.new-grid.result.events.items c.new-grid.result.marks.items
    (subst (λ (l : PlainView). Agrees l (opened (config_of c.args.schedule.now))) (sym c.in_ok-line.ensures.line)
    (subst (λ (t : LineConfig). Agrees c.in-Ok.line (opened t)) (config_is c.args.schedule.now c.nodes.result c.zero.result c.lease.result c.nodes.ensures.nodes c.zero.ensures c.lease.ensures.lease) c.in-Ok.ensures))
    c.in_ok-line.ensures.waiting (c.in_ok-line.ensures.states ∙ ap (λ n. replicate (n + 1) port.Idle) (c.nodes-2.ensures.nodes ∙ sym (c.new-grid.ensures.nodes ∙ c.nodes-3.ensures.nodes))) c.in_ok-line.ensures.closed
    (c.new-grid.ensures.nodes ∙ c.nodes-3.ensures.nodes) c.new-grid.ensures.numbers c.new-grid.ensures.callers c.new-grid.ensures.events c.new-grid.ensures.marks

pub loop-command-preserved : goal.loop-command-preserved
loop-command-preserved g c =
    let lt : c.loop-command.command-index < length c.args.schedule.now.commands = subst (λ (cs : List Command). c.loop-command.command-index < length cs) c.commands-command-items.ensures.commands c.loop-command-test.true in
    let command : Command = get_or c.commands-command-items.result.now c.loop-command.command-index (Enq 0 0) in
    let is : command ≡ get_or c.args.schedule.now.commands c.loop-command.command-index (Enq 0 0) = ap (λ (xs : List Command). get_or xs c.loop-command.command-index (Enq 0 0)) c.commands-command-items.ensures.commands in
    elim c.if-line-number.branch [
      | then-line-number+in_ok-change+in_ok-push w ↦
          subst (λ (l : TracedLine g.row.A.Denot). Stands c.args.schedule.now c.args.number (c.loop-command.command-index + 1) (c.loop-command.done + 1) l.line l.waiting.items l.states.items l.closed c.if-line-number.grid.nodes c.if-line-number.grid.numbers.items c.if-line-number.grid.callers.items c.if-line-number.grid.events.items c.if-line-number.grid.marks.items) (sym w.line-is)
          (subst (λ (k : Grid g.row.A.Denot). Stands c.args.schedule.now c.args.number (c.loop-command.command-index + 1) (c.loop-command.done + 1) w.take.new.self.line w.take.new.self.waiting.items w.take.new.self.states.items w.take.new.self.closed k.nodes k.numbers.items k.callers.items k.events.items k.marks.items) (sym w.grid-is)
          (command_drawn c.args.schedule.now c.args.number c.loop-command.command-index c.loop-command.done _ _ _ _ _ _ _ _ _ _ _ _ _ _ _ _ _ _ _ _ command (Enq 0 0) c.loop-command.invariant lt is
          (sym c.line.ensures ∙ w.if-line-number.true) refl refl refl w.in_ok-change.ensures.change w.in_ok-change.ensures.follows w.in_ok-change.ensures.states w.take.ensures.nodes
          w.push.ensures.nodes w.in_ok-push.ensures.numbers w.in_ok-push.ensures.callers w.in_ok-push.ensures.events (w.in_ok-push.ensures.marks ∙ ap (λ (xs : List PortState). c.loop-command.grid.marks.items ++ column_by w.in_ok-change.change xs) w.deref.ensures.value)))
      | else-line-number w ↦
          subst (λ (l : TracedLine g.row.A.Denot). Stands c.args.schedule.now c.args.number (c.loop-command.command-index + 1) (c.loop-command.done + 1) l.line l.waiting.items l.states.items l.closed c.if-line-number.grid.nodes c.if-line-number.grid.numbers.items c.if-line-number.grid.callers.items c.if-line-number.grid.events.items c.if-line-number.grid.marks.items) (sym w.line-is)
          (subst (λ (k : Grid g.row.A.Denot). Stands c.args.schedule.now c.args.number (c.loop-command.command-index + 1) (c.loop-command.done + 1) c.loop-command.line.line c.loop-command.line.waiting.items c.loop-command.line.states.items c.loop-command.line.closed k.nodes k.numbers.items k.callers.items k.events.items k.marks.items) (sym w.grid-is)
          (command_skipped c.args.schedule.now c.args.number c.loop-command.command-index c.loop-command.done _ _ _ _ _ _ _ _ _ _ command (Enq 0 0) c.loop-command.invariant lt is
          (λ e. w.if-line-number.false (c.line.ensures ∙ e)) refl))
    ]

pub returns : goal.returns
returns g c =
    let end : length c.args.schedule.now.commands ≤ c.loop-command.command-index = subst (λ (cs : List Command). length cs ≤ c.loop-command.command-index) c.commands-command-items.ensures.commands c.loop-command-test.false in
    let all = all_drawn c.args.schedule.now c.args.number _ _ _ _ _ _ _ _ _ _ _ c.loop-command.invariant end in
    record {
      grid = all;
      nodes = let rows : c.loop-command.grid.nodes ≡ c.args.schedule.now.nodes = all.rows_are in omega (arith, c.nodes.ensures.nodes, c.nodes.ensures.range.few);
      size = grid_size _ _ _ _ _ _ _ all;
      numbers = let few : length c.loop-command.grid.numbers.items ≤ c.loop-command.command-index = c.loop-command.invariant.few in omega (arith, c.commands-command-items.ensures.most);
    }
