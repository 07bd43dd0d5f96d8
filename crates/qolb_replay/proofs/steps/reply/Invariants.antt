use Rattle.qolb_replay.proofs.StepsRun.{Reaches}
use Rattle.qolb_replay.proofs.steps.reply.Given as goal

abbrev pub invariant-loop-event : goal.invariant-loop-event
invariant-loop-event g l = Reaches l.fn.detail l.fn.steps l.event-index l.core l.counts l.text.items
