use Rattle.std.proofs.Common.{◌≡◌, ◌<◌, ◌≤◌, ◌+◌, ◌++◌, ℕ, inl, inr, length, get_or, sym, ap, ◌∙◌, arith}
use Rattle.std.specs.List.{flat_map, range_with_len}
use Rattle.std.proofs.lemmas.Bool.{cases_eq}
use Rattle.std.proofs.lemmas.List.{get_or_default, get_or-set_other, length-set}
use Rattle.std.proofs.lemmas.List.FromFn.{fill_by_all}
use Rattle.std.proofs.lemmas.Grind.{get_or-set_at}
use Rattle.link_core.specs.State.{empty, entry}
use Rattle.qolb_draw.specs.StepShapes.{word_shapes}
use Rattle.qolb_draw.specs.StepSvg.{step_texts}
use Rattle.qolb_draw.proofs.Pushing.{piece_pushed}
use Rattle.qolb_draw.proofs.StepTexts.{step_texts-flat_map}
use Rattle.qolb_draw.proofs.step_event.push_other_words.Goals as goal

pub loop-before-preserved : goal.loop-before-preserved
loop-before-preserved g c =
    let had = c.loop-before.invariant in
    let size = had.size in
    let within : c.loop-before.before < length c.loop-before.entries = omega (arith, size, c.requires.size, c.nodes-before-end.ensures) in
    let is = c.entry-entry.ensures in
    record {
      svg_is = piece_pushed (λ k. step_texts (word_shapes c.args.column (k + 1) (get_or c.args.entries.now k empty) (entry c.args.core.now (k + 1)))) c.args.svg.now.items c.loop-before.before c.loop-before.svg.items c.push_other_word.new.svg.items _
          had.svg_is (ap (λ w. step_texts (word_shapes c.args.column (c.loop-before.before + 1) w c.entry-entry.result)) (get_or_default _ _ _ empty within ∙ had.left c.loop-before.before (omega arith))
          ∙ ap (λ e. step_texts (word_shapes c.args.column (c.loop-before.before + 1) (get_or c.args.entries.now c.loop-before.before empty) e)) is) c.in_ok-push_other_word.ensures;
      size = length-set c.loop-before.entries c.loop-before.before c.entry-entry.result ∙ size;
      kept = λ k lt. elim (cases_eq k c.loop-before.before) [
        | inl here ↦ get_or-set_at c.loop-before.entries c.loop-before.before k c.entry-entry.result empty here within ∙ is ∙ sym (ap (λ n. entry c.args.core.now (n + 1)) here)
        | inr other ↦ get_or-set_other c.loop-before.entries c.loop-before.before k c.entry-entry.result empty other ∙ had.kept k (omega (arith, lt, other))
      ];
      left = λ k le. get_or-set_other c.loop-before.entries c.loop-before.before k c.entry-entry.result empty (λ e. omega (arith, le, e)) ∙ had.left k (omega (arith, le));
    }

pub returns-clause-svg : goal.returns-clause-svg
returns-clause-svg g c =
    let at : c.loop-before.before ≡ c.args.core.now.nodes = omega (arith, c.nodes-before-end.ensures) in
    c.loop-before.invariant.svg_is ∙ ap (λ n. c.args.svg.now.items ++ flat_map (λ k. step_texts (word_shapes c.args.column (k + 1) (get_or c.args.entries.now k empty) (entry c.args.core.now (k + 1)))) (range_with_len 0 n)) at
    ∙ ap (λ t. c.args.svg.now.items ++ t) (sym (step_texts-flat_map (λ k. word_shapes c.args.column (k + 1) (get_or c.args.entries.now k empty) (entry c.args.core.now (k + 1))) (range_with_len 0 c.args.core.now.nodes)))

pub returns-clause-entries : goal.returns-clause-entries
returns-clause-entries g c =
    let at : c.loop-before.before ≡ c.args.core.now.nodes = omega (arith, c.nodes-before-end.ensures) in
    fill_by_all (λ k. entry c.args.core.now (k + 1)) c.loop-before.entries c.args.core.now.nodes empty (c.loop-before.invariant.size ∙ c.requires.size) (λ k lt. c.loop-before.invariant.kept k (omega (arith, lt, at)))
