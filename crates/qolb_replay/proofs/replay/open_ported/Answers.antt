use Rattle.std.proofs.Common.{◌≡◌, ℕ, List, ◌+◌, length, sym, ap, ◌∙◌, subst, length-append}
use Rattle.qolb_model.specs.declared.config.LineConfig.{LineConfig}
use Rattle.qolb_model.specs.OneOwner.{OwnerState, opened}
use Rattle.qolb_model.specs.Opening.{MayOpen}
use Rattle.qolb_model.specs.Whole.{ViewAndTurn, AreSynced}
use Rattle.qolb_script.specs.Reply.{replay_start}
use Rattle.qolb_replay.specs.Tallies.{AreLinesOf}
use Rattle.qolb_replay.specs.declared.line.CountingLine.{CountingLine}
use Rattle.qolb_replay.proofs.Replayed.{IsNew, one_more_opened}
use Rattle.qolb_replay.proofs.replay.open_ported.Goals as goal

abbrev represents : List ViewAndTurn → OwnerState → Type 0
represents ports s = AreSynced s ports

abbrev nodes_of : List ViewAndTurn → ℕ
nodes_of ports = length ports

pub new-requires-clause-bytes : goal.new-requires-clause-bytes
new-requires-clause-bytes g c = subst (λ (t : LineConfig). length t.opening.bytes ≡ 64) (sym c.in-Ok.ensures.opens.config_is) c.requires.bytes

pub new-requires-clause-may_open : goal.new-requires-clause-may_open
new-requires-clause-may_open g c = subst MayOpen (sym c.in-Ok.ensures.opens.config_is) c.requires.may_open

pub new-requires-clause-belongs : goal.new-requires-clause-belongs
new-requires-clause-belongs g c = c.in-Ok.ensures.opens.each_belongs

pub loop-number-preserved : goal.loop-number-preserved
loop-number-preserved g c =
    let config : LineConfig = c.args.config.now in
    let line : CountingLine (List ViewAndTurn) = c.new-in-loop-number.result in
    let new : IsNew represents nodes_of c.args.config.now line = record {
      nodes_are = ap (λ (t : CountingLine (List ViewAndTurn)). length t.line) c.new-in-loop-number.ensures ∙ (c.new.ensures.nodes ∙ ap (λ (t : LineConfig). t.nodes) c.in-Ok.ensures.opens.config_is);
      agrees = subst (λ (t : CountingLine (List ViewAndTurn)). AreSynced (opened c.args.config.now) t.line) (sym c.new-in-loop-number.ensures)
          (subst (λ (t : LineConfig). AreSynced (opened t) c.new.result) c.in-Ok.ensures.opens.config_is c.new.ensures.represents);
      nothing_said = ap (λ (t : CountingLine (List ViewAndTurn)). t.counts) c.new-in-loop-number.ensures;
    } in
    record {
      opened = subst (AreLinesOf represents nodes_of c.args.config.now.nodes (replay_start c.args.config.now (c.loop-number.number + 1))) (sym c.in_ok-push.ensures.items)
          (one_more_opened represents nodes_of c.args.config.now c.loop-number.number c.loop-number.all.items line c.loop-number.invariant.opened c.loop-number.invariant.many new);
      many = ap length c.in_ok-push.ensures.items ∙ length-append c.loop-number.all.items _ ∙ ap (λ n. n + 1) c.loop-number.invariant.many;
    }
