use Rattle.std.proofs.Common.{◌≡◌, ◌+◌, drop}
use Rattle.qolb_draw.specs.StepShapes.{until}
use Rattle.qolb_draw.proofs.step_event.until.Given as goal

abbrev pub invariant-loop-place : goal.invariant-loop-place
invariant-loop-place l = until l.node l.rest ≡ l.place + until l.node (drop l.place l.rest)
