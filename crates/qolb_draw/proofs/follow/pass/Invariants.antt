use Rattle.std.proofs.Common.{◌≡◌, ◌⊎◌, length}
use Rattle.qolb_draw.specs.Following.{after_ended, ArePassed}
use Rattle.qolb_draw.proofs.follow.pass.Given as goal

abbrev pub invariant-loop-state : goal.invariant-loop-state
invariant-loop-state g l = (after_ended l.line l.waiting.items ≡ after_ended l.fn.line l.fn.waiting.items)
    × ArePassed l.line l.fn.waiting.items l.waiting.items l.fn.states.items l.states.items
    × ((l.closed ≡ l.line.closed) ⊎ ((l.closed ≡ l.was_closed) × (l.waiting.items ≡ l.fn.waiting.items)))

abbrev pub decreases-loop-state : goal.decreases-loop-state
decreases-loop-state g l = length l.waiting.items
