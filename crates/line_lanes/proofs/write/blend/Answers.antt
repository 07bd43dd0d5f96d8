use Rattle.std.proofs.Common.{ℕ, ◌≡◌, ◌<◌, ◌==◌, ◌%◌, ◌^◌, false, ap, ap₂, ◌∙◌, arith, w8, eqb, cond, get_or, length, mod-lt, zero-lt-suc}
use Rattle.std.specs.Prelude.{bit_and}
use Rattle.std.proofs.lemmas.Simd.{tops_compared, get_or-sel_l, get_or-zip2, length-zip2}
use Rattle.std.proofs.Math.Facts.{eqb_yes}
use lib.Lanes.{zip2, sel_l}
use Rattle.line_lanes.specs.declared.write.TheConstants.{BITS}
use Rattle.line_lanes.proofs.MaskBits.{and_pow-is_masked, upto_sound}
use Rattle.line_lanes.proofs.write.blend.Goals as goal

bits_at : (k : ℕ) → k < 32 → get_or BITS k 0 ≡ 2 ^ (k % 8)
bits_at k h = eqb_yes (upto_sound (λ j. get_or BITS j 0 == 2 ^ (j % 8)) 32 tt k h)

pub returns : goal.returns
returns c k h =
    let mask = c.args.mask in
    let new = c.args.new in
    let old = c.args.old in
    let kept = zip2 bit_and mask BITS in
    let long : length kept ≡ 32 = length-zip2 bit_and mask BITS c.fits-mask.0 ∙ c.fits-mask.0 in
    let tests : length (zip2 eqb kept BITS) ≡ 32 = length-zip2 eqb kept BITS long ∙ long in
    ap (λ ms. get_or (sel_l ms new old) k 0) (tops_compared w8 eqb kept BITS)
    ∙ get_or-sel_l (zip2 eqb kept BITS) new old k 0 (omega (arith, tests)) (omega (arith, c.fits-new.0)) (omega (arith, c.fits-old.0))
    ∙ ap (λ b. cond b (get_or new k 0) (get_or old k 0))
    (get_or-zip2 eqb kept BITS k 0 0 false (omega (arith, long)) h
    ∙ ap₂ eqb (get_or-zip2 bit_and mask BITS k 0 0 0 (omega (arith, c.fits-mask.0)) h ∙ ap (bit_and (get_or mask k 0)) (bits_at k h)) (bits_at k h)
    ∙ and_pow-is_masked (get_or mask k 0) (k % 8) (mod-lt k (zero-lt-suc 7)))
