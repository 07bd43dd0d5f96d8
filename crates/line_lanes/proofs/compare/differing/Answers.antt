use Rattle.std.proofs.Common.{ℕ, ◌≡◌, ◌<◌, ◌^◌, ◌%◌, ap, ◌∙◌, arith, w8, eqb, not, false, length, map, subst, sym}
use Rattle.std.proofs.lemmas.Simd.{tops_compared, get_or-zip2, length-zip2, mask_l-mod, mask_l-lt}
use lib.Lanes.{zip2, mask_l}
use Rattle.line_lanes.specs.Mask.{is_masked}
use Rattle.line_lanes.proofs.MaskBits.{is_masked-mask_l}
use Rattle.line_lanes.proofs.compare.differing.Goals as goal

pub returns-clause-bits : goal.returns-clause-bits
returns-clause-bits c k h =
    let unlike = λ (x y : ℕ). not (eqb x y) in
    let tests = zip2 unlike c.args.a c.args.b in
    let long : length tests ≡ 32 = length-zip2 unlike c.args.a c.args.b (omega (arith, c.fits-a.0, c.fits-b.0)) ∙ c.fits-a.0 in
    ap (λ ms. is_masked (mask_l ms % 2 ^ 64) k) (tops_compared w8 unlike c.args.a c.args.b)
    ∙ ap (λ n. is_masked n k) (mask_l-mod tests 64 (omega (arith, long)))
    ∙ is_masked-mask_l tests k
    ∙ get_or-zip2 unlike c.args.a c.args.b k 0 0 false (omega (arith, c.fits-a.0)) (omega (arith, c.fits-b.0))

pub returns-clause-bound : goal.returns-clause-bound
returns-clause-bound c =
    let unlike = λ (x y : ℕ). not (eqb x y) in
    let tests = zip2 unlike c.args.a c.args.b in
    let long : length tests ≡ 32 = length-zip2 unlike c.args.a c.args.b (omega (arith, c.fits-a.0, c.fits-b.0)) ∙ c.fits-a.0 in
    let e : mask_l (map _ _) % 2 ^ 64 ≡ mask_l tests = ap (λ ms. mask_l ms % 2 ^ 64) (tops_compared w8 unlike c.args.a c.args.b) ∙ mask_l-mod tests 64 (omega (arith, long)) in
    subst (λ n. n < 2 ^ 32) (sym e) (subst (λ l. mask_l tests < 2 ^ l) long (mask_l-lt tests))
