use Rattle.std.proofs.Common.{◌≡◌, ◌+◌, map}
use Rattle.std.specs.List.{range_with_len}
use Rattle.link_core.specs.State.{entry}
use Rattle.qolb_draw.proofs.step_event.entries_of.Given as goal

abbrev pub invariant-loop-before : goal.invariant-loop-before
invariant-loop-before g l = l.entries.items ≡ map (λ k. entry l.core (k + 1)) (range_with_len 0 l.before)
