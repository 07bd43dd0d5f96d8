-- Lemmas about a test on every lane of a vector. The mask of the results is nonzero exactly if some lane passes the
-- test.
use Rattle.std.proofs.Common.{◌≡◌, ℕ, zero, suc, ◌+◌, ◌*◌, ◌<◌, Bool, true, false, not, ◌==◌, List, [], ◌∷◌, get_or, length, refl, sym, ap, ◌∙◌, ne_eqb, arith}
use Rattle.std.proofs.lemmas.Nat.Bits.{bit_at-zero}
use lib.Lanes.{Each2, mask_l}
use Rattle.line_lanes.specs.Mask.{is_masked}
use Rattle.line_lanes.proofs.MaskBits.{is_masked-mask_l}

pub each2_from : (P : ℕ → ℕ → Type 0) (xs ys : List ℕ) → length xs ≡ length ys → ((k : ℕ) → k < length xs → P (get_or xs k 0) (get_or ys k 0)) → Each2 P xs ys
each2_from P [] ys e h = tt
each2_from P (x ∷ xs) [] e h = tt
each2_from P (x ∷ xs) (y ∷ ys) e h = (h 0 (omega arith), each2_from P xs ys (omega (arith, e)) (λ k l. h (suc k) (omega (arith, l))))

-- if the tests' mask is not 0, some test passed
pub passed_from_mask : (tests : List Bool) → not (mask_l tests == 0) ≡ true → (k : ℕ) × (k < length tests) × (get_or tests k false ≡ true)
passed_from_mask [] e = let no : false ≡ true = e in cc
passed_from_mask (true ∷ tests) e = (0, omega arith, refl)
passed_from_mask (false ∷ tests) e =
    let (k, h, passed) = passed_from_mask tests (halved (mask_l tests) e) in
    (suc k, omega (arith, h), passed)
  where
    halved : (n : ℕ) → not (0 + 2 * n == 0) ≡ true → not (n == 0) ≡ true
    halved zero e = e
    halved (suc n) e = ap not (ne_eqb (suc n) 0 (omega arith))

-- if some test passed, the tests' mask is not 0
pub mask_from_passed : (tests : List Bool) (k : ℕ) → k < length tests → get_or tests k false ≡ true → not (mask_l tests == 0) ≡ true
mask_from_passed tests k h e = ap not (ne_eqb (mask_l tests) 0 (λ z. unset (sym (ap (λ n. is_masked n k) z) ∙ is_masked-mask_l tests k ∙ e)))
  where
    unset : is_masked 0 k ≡ true → ⊥
    unset t = let no : false ≡ true = sym (ap (λ n. n == 1) (bit_at-zero k)) ∙ t in cc
