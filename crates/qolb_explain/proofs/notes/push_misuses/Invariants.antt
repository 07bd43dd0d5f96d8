use Rattle.qolb_explain.proofs.Noting.{Stands}
use Rattle.qolb_explain.proofs.notes.push_misuses.Given as goal

abbrev pub invariant-loop-command : goal.invariant-loop-command
invariant-loop-command l = Stands l.fn.schedule l.line l.command-index l.number l.plain l.fn.notes.items l.notes.items
