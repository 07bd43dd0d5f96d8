use Rattle.std.proofs.Common.{◌≡◌, ◌+◌, ◌++◌, map}
use Rattle.std.specs.List.{range_with_len}
use Rattle.link_core.specs.State.{point}
use Rattle.qolb_draw.specs.StepPictures.{letter_at}
use Rattle.qolb_draw.proofs.step_text.push_letters.Given as goal

abbrev pub invariant-loop-before : goal.invariant-loop-before
invariant-loop-before g l = l.text.items ≡ l.fn.text.items ++ map (λ k. letter_at (point l.core (k + 1))) (range_with_len 0 l.before)
