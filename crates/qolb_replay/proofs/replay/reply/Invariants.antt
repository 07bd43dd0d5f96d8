use Rattle.qolb_replay.proofs.Replayed.{Stands, Ends}
use Rattle.qolb_replay.proofs.replay.reply.Given as goal

abbrev pub invariant-loop-command : goal.invariant-loop-command
invariant-loop-command g l = Stands g.R.ReplayLine.represents g.R.ReplayLine.nodes_of l.fn.schedule l.command-index l.lines.items l.text.items

abbrev pub invariant-loop-number : goal.invariant-loop-number
invariant-loop-number g l = Ends l.fn.schedule l.number l.text.items
