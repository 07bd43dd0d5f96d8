use Rattle.std.proofs.Common.{◌≡◌, length}
use Rattle.qolb_model.specs.Steps.{after_withdrawn}
use Rattle.qolb_model.proofs.plain.pass.Given as goal

abbrev pub invariant-loop-waiting : goal.invariant-loop-waiting
invariant-loop-waiting l = after_withdrawn l.waiting.items ≡ after_withdrawn l.fn.waiting.items

abbrev pub decreases-loop-waiting : goal.decreases-loop-waiting
decreases-loop-waiting l = length l.waiting.items
