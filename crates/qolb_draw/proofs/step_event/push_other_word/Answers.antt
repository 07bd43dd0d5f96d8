use Rattle.std.proofs.Common.{◌≡◌, Bool, true, false, not, cond, [], ◌∷◌, ◌++◌, refl, sym, ap, ◌∙◌, append-nil}
use Rattle.qolb_draw.specs.StepShapes.{Word, is_same_entry}
use Rattle.qolb_draw.specs.StepSvg.{step_texts, word_text}
use Rattle.qolb_draw.proofs.step_event.push_other_word.Goals as goal

so_not : (b : Bool) → not b ≡ true → b ≡ false
so_not false h = refl
so_not true h = sym h

pub returns-in_ok-push_word : goal.returns-in_ok-push_word
returns-in_ok-push_word g c =
    let other : is_same_entry c.args.is.now c.args.was.now ≡ false = so_not (is_same_entry c.args.is.now c.args.was.now) (sym c.ne.ensures ∙ c.if-ne.true) in
    c.in_ok-push_word.ensures ∙ ap (λ t. c.args.svg.now.items ++ t) (sym (append-nil (word_text c.args.column c.args.node c.args.is.now)))
    ∙ ap (λ b. c.args.svg.now.items ++ step_texts (cond b [] (Word c.args.column c.args.node c.args.is.now ∷ []))) (sym other)
