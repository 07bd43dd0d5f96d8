use Rattle.std.proofs.Common.{ℕ, List, ◌==◌, ◌≡◌, ◌<◌, ◌*◌, ◌/◌, ◌%◌, ◌^◌, [], ◌∷◌, ap, ◌∙◌, arith, get_or, refl}
use Rattle.std.proofs.lemmas.Simd.{get_or_narrower}
use Rattle.std.proofs.lemmas.List.{get_or-map}
use lib.Lanes.{digits_l, number_l}
use Rattle.std.proofs.Math.Facts.{eqb_yes}
use Rattle.line_lanes.proofs.MaskBits.{upto_sound}
use Rattle.line_lanes.proofs.write.two_bytes.Goals as goal

-- the byte of the mask that each place reads
abbrev sources : List ℕ
sources = 0 ∷ 0 ∷ 0 ∷ 0 ∷ 0 ∷ 0 ∷ 0 ∷ 0 ∷ 1 ∷ 1 ∷ 1 ∷ 1 ∷ 1 ∷ 1 ∷ 1 ∷ 1 ∷ []

source_at : (k : ℕ) → k < 16 → get_or sources k 0 ≡ k / 8
source_at k h = eqb_yes (upto_sound (λ j. get_or sources j 0 == j / 8) 16 tt k h)

pow_of_byte : (k : ℕ) → k < 16 → 256 ^ (k / 8) ≡ 2 ^ (8 * (k / 8))
pow_of_byte k h = eqb_yes (upto_sound (λ j. 256 ^ (j / 8) == 2 ^ (8 * (j / 8))) 16 tt k h)

pub returns-clause-bytes : goal.returns-clause-bytes
returns-clause-bytes c k h =
    let mask = c.args.mask in
    let bytes = digits_l 256 8 (number_l (2 ^ 64) (mask ∷ [])) in
    let i = k / 8 in
    let small : i < 8 = omega arith in
    get_or-map (λ j. get_or bytes j 0) sources k 0 0 h
    ∙ ap (λ j. get_or bytes j 0) (source_at k h)
    ∙ ap (λ j. get_or bytes j 0) (omega arith)
    ∙ get_or_narrower (2 ^ 64) 8 256 8 (mask ∷ []) 0 i refl (c.ranges.mask.fits, tt) small (omega arith)
    ∙ ap (λ q. mask / q % 256) (pow_of_byte k h)
