use Rattle.std.proofs.Common.{◌≡◌, ℕ, ◌+◌, ◌<◌, ◌≤◌, ◌++◌, length, get_or}
use Rattle.std.specs.List.{flat_map, range_with_len}
use Rattle.link_core.specs.State.{empty, entry}
use Rattle.qolb_draw.specs.StepShapes.{word_shapes}
use Rattle.qolb_draw.specs.StepSvg.{step_texts}
use Rattle.qolb_draw.proofs.step_event.push_other_words.Given as goal

abbrev pub invariant-loop-before : goal.invariant-loop-before
invariant-loop-before g l = record {
  svg_is : l.svg.items ≡ l.fn.svg.items ++ flat_map (λ k. step_texts (word_shapes l.column (k + 1) (get_or l.fn.entries k empty) (entry l.core (k + 1)))) (range_with_len 0 l.before);
  size : length l.entries ≡ length l.fn.entries;
  kept : (k : ℕ) → k < l.before → get_or l.entries k empty ≡ entry l.core (k + 1);
  left : (k : ℕ) → l.before ≤ k → get_or l.entries k empty ≡ get_or l.fn.entries k empty;
}
