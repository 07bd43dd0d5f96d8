use Rattle.std.proofs.Common.{◌≡◌, ◌+◌, [], ◌∷◌, ◌++◌, sym, ap, ◌∙◌, arith}
use Rattle.std.specs.List.{range_with_len}
use Rattle.qolb_draw.proofs.Pushing.{range_more}
use Rattle.qolb_draw.proofs.step_text.numbers_to.Goals as goal

pub loop-before-preserved : goal.loop-before-preserved
loop-before-preserved g c =
    let next : 1 + c.loop-before.before ≡ c.loop-before.before + 1 = omega arith in
    c.in_ok-push.ensures.items ∙ ap (λ ns. ns ++ (c.loop-before.before + 1) ∷ []) c.loop-before.invariant
    ∙ sym (range_more 1 c.loop-before.before ∙ ap (λ n. range_with_len 1 c.loop-before.before ++ n ∷ []) next)
