use Rattle.std.proofs.Common.{rules, ℕ, ◌≡◌, ◌^◌, ◌<◌, ◌&&◌, ◌==◌, Bool, true, false, not, ap, ◌∙◌, sym, refl, eqb-true, eq-eqb}
use Rattle.std.specs.Prelude.{bit_and, slice_index}
use Rattle.std.specs.Int.Bits.{and_lt}
use Rattle.std.proofs.lemmas.Nat.{pow_pos}
use Rattle.std.proofs.lemmas.Nat.Bits.{bit_at-zero}
use Rattle.line_lanes.specs.Mask.{is_masked}
use Rattle.line_lanes.proofs.MaskBits.{is_masked-and, is_masked-mask_by, same_from_masked}
use Rattle.line_lanes.proofs.compare.agrees.Goals as goal

-- a place of the mask is none of the places that differ
apart : (differs masked : Bool) → (differs && masked) ≡ false → masked ≡ true → differs ≡ false
apart true true e h = e
apart false masked e h = refl
apart true false e h = sym h

none : (differs masked : Bool) → (masked ≡ true → differs ≡ false) → (differs && masked) ≡ false
none true true f = f refl
none true false f = refl
none false masked f = refl

equal : (b : Bool) → not b ≡ false → b ≡ true
equal true e = refl
equal false e = sym e

pub returns : goal.returns
returns c =
    let differ = c.changed.result.0 in
    let mask = c.args.mask.0 in
    let a = c.args.a.now.bytes in
    let b = c.args.b.now.bytes in
    let bit : (k : ℕ) → k < 64 → is_masked differ k ≡ not (slice_index a k == slice_index b k) = λ k h.
    ap (λ n. is_masked n k) c.changed.ensures ∙ is_masked-mask_by (λ i. not (slice_index a i == slice_index b i)) k h in
    let bound : bit_and differ mask < 2 ^ 64 = and_lt 64 differ mask (search rules) (search rules) in
    let unset : (k : ℕ) → is_masked 0 k ≡ false = λ k. ap (λ n. n == 1) (bit_at-zero k) in (
      λ t k h on.
          let e : bit_and differ mask ≡ 0 = eqb-true (bit_and differ mask) 0 t in
          eqb-true (slice_index a k) (slice_index b k) (equal (slice_index a k == slice_index b k) (sym (bit k h) ∙ apart (is_masked differ k) (is_masked mask k) (sym (is_masked-and differ mask k) ∙ ap (λ n. is_masked n k) e ∙ unset k) on)),
      λ same.
          eq-eqb (bit_and differ mask) 0 (same_from_masked 64 (bit_and differ mask) 0 bound (pow_pos 64) (λ k h.
          is_masked-and differ mask k ∙ none (is_masked differ k) (is_masked mask k) (λ on. bit k h ∙ ap not (eq-eqb (slice_index a k) (slice_index b k) (same k h on))) ∙ sym (unset k))),
    )
