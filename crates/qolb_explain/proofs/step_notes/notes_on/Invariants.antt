use Rattle.qolb_explain.proofs.Noting.{Reaches}
use Rattle.qolb_explain.proofs.step_notes.notes_on.Given as goal

abbrev pub invariant-loop-event : goal.invariant-loop-event
invariant-loop-event l = Reaches l.fn.steps l.event-index l.number l.core l.notes.items
