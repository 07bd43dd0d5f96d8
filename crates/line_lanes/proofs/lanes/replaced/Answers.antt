use Rattle.std.proofs.Common.{◌≡◌, false, ap, ◌∙◌, sym, arith, w8, eqb, cond, get_or, length, replicate}
use Rattle.std.proofs.lemmas.Simd.{tops_compared, get_or-sel_l, length-sel_l, get_or-zip2, length-zip2, get_or-replicate, length-replicate}
use lib.Lanes.{zip2, sel_l}
use Rattle.line_lanes.proofs.lanes.replaced.Goals as goal

pub returns-clause-len : goal.returns-clause-len
returns-clause-len c =
    let tests = zip2 eqb c.args.lanes (replicate 32 c.args.k) in
    let long : length tests ≡ 32 = length-zip2 eqb c.args.lanes (replicate 32 c.args.k) (c.fits-lanes.0 ∙ sym (length-replicate 32 c.args.k)) ∙ c.fits-lanes.0 in
    ap (λ ms. length (sel_l ms c.args.value c.args.half)) (tops_compared w8 eqb c.args.lanes (replicate 32 c.args.k))
    ∙ length-sel_l tests c.args.value c.args.half (long ∙ sym c.fits-value.0) (long ∙ sym c.fits-half.0)
    ∙ long

pub returns-clause-bytes : goal.returns-clause-bytes
returns-clause-bytes c i h =
    let value = c.args.value in
    let half = c.args.half in
    let lanes = c.args.lanes in
    let wanted = replicate 32 c.args.k in
    let wide : length wanted ≡ 32 = length-replicate 32 c.args.k in
    let tests = zip2 eqb lanes wanted in
    let long : length tests ≡ 32 = length-zip2 eqb lanes wanted (c.fits-lanes.0 ∙ sym wide) ∙ c.fits-lanes.0 in
    ap (λ ms. get_or (sel_l ms value half) i 0) (tops_compared w8 eqb lanes wanted)
    ∙ get_or-sel_l tests value half i 0 (omega (arith, long)) (omega (arith, c.fits-value.0)) (omega (arith, c.fits-half.0))
    ∙ ap (λ b. cond b (get_or value i 0) (get_or half i 0))
    (get_or-zip2 eqb lanes wanted i 0 0 false (omega (arith, c.fits-lanes.0)) (omega (arith, wide)) ∙ ap (eqb (get_or lanes i 0)) (get_or-replicate 32 i c.args.k 0 h))
