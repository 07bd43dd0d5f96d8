-- Lemmas about writing only those bytes of a line that differ between its old and its new contents.
use Rattle.std.proofs.Common.{◌≡◌, ℕ, ◌==◌, false, not, List, length, refl, ap, sym, ◌∙◌, arith, if◌then◌else◌, inl, inr, eq-eqb, ne_eqb}
use Rattle.std.proofs.lemmas.Bool.{cases_eq}
use Rattle.std.specs.Prelude.{slice_index}
use Rattle.std.proofs.lemmas.Nat.Bits.{bit_at-zero}
use Rattle.line_lanes.specs.Mask.{changed_mask}
use Rattle.line_lanes.specs.Line.{merged}
use Rattle.line_lanes.proofs.MaskBits.{is_masked-mask_by, mask_by-from_bits}
use Rattle.line_lanes.proofs.Masked.{merged-by}

chosen : (x y : ℕ) → y ≡ (if not (x == y) then y else x)
chosen x y = elim (cases_eq x y) [
  | inl e ↦ rw (eq-eqb x y e) (sym e)
  | inr ne ↦ rw (ne_eqb x y ne) refl
]

-- if the bytes that differ are written, the result is the new line
pub merged-changed : (old new : List ℕ) → length new ≡ 64 → merged old new (changed_mask old new) ≡ new
merged-changed old new long =
    sym (merged-by new old new (changed_mask old new) long (λ k lt.
    chosen (slice_index old k) (slice_index new k)
    ∙ ap (λ b. if b then slice_index new k else slice_index old k) (sym (is_masked-mask_by (λ i. not (slice_index old i == slice_index new i)) k lt))))

same_byte : (x : ℕ) → false ≡ not (x == x)
same_byte x = sym (ap not (eq-eqb x x refl))

-- between equal lines no byte differs
pub changed_mask-self : (bytes : List ℕ) → changed_mask bytes bytes ≡ 0
changed_mask-self bytes =
    sym (mask_by-from_bits (λ i. not (slice_index bytes i == slice_index bytes i)) 0 (omega arith) (λ k lt.
    ap (λ b. b == 1) (bit_at-zero k) ∙ same_byte (slice_index bytes k)))
