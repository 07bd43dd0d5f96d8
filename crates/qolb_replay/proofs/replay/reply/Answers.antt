use Rattle.std.proofs.Common.{rules, ◌≡◌, ◌≤◌, ◌<◌, ℕ, List, length, get_or, subst}
use Rattle.qolb_script.specs.declared.command.Command.TheVariants.{Enq}
use Rattle.qolb_script.specs.declared.command.Command.{Command}
use Rattle.qolb_script.specs.Reply.{Replay, summary_of}
use Rattle.qolb_replay.specs.declared.line.CountingLine.{CountingLine}
use Rattle.qolb_replay.specs.Tallies.{IsLineOf}
use Rattle.qolb_replay.proofs.Replayed.{command_done, summary_done}
use Rattle.qolb_replay.proofs.replay.reply.Goals as goal

pub loop-command-preserved : goal.loop-command-preserved
loop-command-preserved g c =
    command_done g.R.ReplayLine.represents g.R.ReplayLine.nodes_of c.args.schedule.now c.loop-command.command-index c.line.result c.loop-command.lines.items c.loop-command.text.items c.push_said.new.text.items
    c.commands-command-items.result.now (Enq 0 0) c.take-said.result c.index_mut.result.now c.take-said.new.self
    c.loop-command.invariant c.commands-command-items.ensures.commands c.loop-command-test.true c.line.ensures c.commands-command-items.ensures.range
    c.index_mut.ensures.value c.take-said.ensures c.in_ok-push_said.ensures.ok

pub loop-number-preserved : goal.loop-number-preserved
loop-number-preserved g c =
    let end : length c.args.schedule.now.commands ≤ c.loop-command.command-index = subst (λ (cs : List Command). length cs ≤ c.loop-command.command-index) c.commands-command-items.ensures.commands c.loop-command-test.false in
    let there : c.loop-number.number < length c.loop-command.lines.items = search rules in
    let tells = subst (λ (n : ℕ). (r : Replay) → IsLineOf g.R.ReplayLine.represents g.R.ReplayLine.nodes_of n r c.loop-number.number c.line-item.result → c.summary.result ≡ summary_of n r c.loop-number.number) c.nodes-nodes.ensures.nodes c.summary.ensures in
    summary_done g.R.ReplayLine.represents g.R.ReplayLine.nodes_of c.args.schedule.now c.loop-command.command-index c.loop-number.number c.loop-command.lines.items c.loop-command.text.items c.loop-number.text.items
    c.push_said-in-loop-number.new.text.items c.summary.result c.line-item.result c.loop-command.invariant end there (subst (λ (xs : List (CountingLine g.row.R.Denot)). c.line-item.result ≡ get_or xs c.loop-number.number c.line-item.result) c.deref-line-items.ensures.value c.line-item.is) tells c.loop-number.invariant c.in_ok-push_said-2.ensures.ok
