-- Lemmas about bytes that are written into a line from a given offset on: the mask of these bytes, and the resulting
-- line.
use Rattle.std.proofs.Common.{◌≡◌, ℕ, ◌+◌, ◌-◌, ◌*◌, ◌%◌, ◌^◌, ◌<◌, ◌≤◌, leb, ltb, Bool, true, false, ◌&&◌, ◌==◌, List, ◌++◌, take, drop, replicate, length, ◌⊎◌, inl, inr, refl, sym, ap, ap₂, ◌∙◌, arith, le-leb, lt-ltb, mod-lt, if◌then◌else◌}
use Rattle.std.specs.Prelude.{slice_index}
use Rattle.std.proofs.lemmas.Bool.{cases_order, lt-leb, le-ltb}
use Rattle.std.proofs.lemmas.List.{get_or_append_left, get_or-append_right, get_or-take, get_or-drop, length-append, length-take, length-drop}
use Rattle.std.proofs.lemmas.List.FromFn.{fill_by_all}
use Rattle.std.proofs.lemmas.Nat.{pow_pos}
use Rattle.std.proofs.lemmas.Nat.Bits.{bit_at_ones, bit_at_ones_above}
use Rattle.std.proofs.lemmas.Simd.{get_or-replicate, length-replicate}
use Rattle.line_lanes.specs.Mask.{is_masked, is_within, placed_mask}
use Rattle.line_lanes.specs.Line.{placed_line}
use Rattle.line_lanes.proofs.MaskBits.{bit_at-shl_below, bit_at-shl_from, mask_by-from_bits}

within_is : (off len k : ℕ) (from below : Bool) → leb off k ≡ from → ltb k (off + len) ≡ below → is_within off len k ≡ (from && below)
within_is off len k from below e f = ap₂ (λ x y. x && y) e f

before : (off len k : ℕ) → k < off → is_within off len k ≡ false
before off len k lt = within_is off len k false (ltb k (off + len)) (lt-leb off k lt) refl

inside : (off len k : ℕ) → off ≤ k → k < off + len → is_within off len k ≡ true
inside off len k le lt = within_is off len k true true (le-leb off k le) (lt-ltb k (off + len) lt)

after : (off len k : ℕ) → off ≤ k → off + len ≤ k → is_within off len k ≡ false
after off len k le ge = within_is off len k true false (le-leb off k le) (le-ltb k (off + len) ge)

-- a place before the first, at one of them, or after the last
places : (off len k : ℕ) → (k < off) ⊎ ((off ≤ k) × (k < off + len) ⊎ (off ≤ k) × (off + len ≤ k))
places off len k = first (cases_order k off)
  where
    second : off ≤ k → (k ≡ off + len) ⊎ ((k < off + len) ⊎ (off + len < k)) → (k < off) ⊎ ((off ≤ k) × (k < off + len) ⊎ (off ≤ k) × (off + len ≤ k))
    second le (inl e) = inr (inr (le, omega arith))
    second le (inr (inl lt)) = inr (inl (le, lt))
    second le (inr (inr gt)) = inr (inr (le, omega arith))

    first : (k ≡ off) ⊎ ((k < off) ⊎ (off < k)) → (k < off) ⊎ ((off ≤ k) × (k < off + len) ⊎ (off ≤ k) × (off + len ≤ k))
    first (inl e) = second (omega arith) (cases_order k (off + len))
    first (inr (inl lt)) = inl lt
    first (inr (inr gt)) = second (omega arith) (cases_order k (off + len))

-- `len` ones, shifted to place `off`
pub shifted_ones : (off len : ℕ) → (2 ^ len - 1) * 2 ^ off % 2 ^ 64 ≡ placed_mask off len
shifted_ones off len =
    mask_by-from_bits (is_within off len) ((2 ^ len - 1) * 2 ^ off % 2 ^ 64) (mod-lt ((2 ^ len - 1) * 2 ^ off) (pow_pos 64)) (λ k h. at k h (places off len k))
  where
    at : (k : ℕ) → k < 64 → (k < off) ⊎ ((off ≤ k) × (k < off + len) ⊎ (off ≤ k) × (off + len ≤ k)) → is_masked ((2 ^ len - 1) * 2 ^ off % 2 ^ 64) k ≡ is_within off len k
    at k h (inl lt) = ap (λ b. b == 1) (bit_at-shl_below (2 ^ len - 1) off k lt h) ∙ sym (before off len k lt)
    at k h (inr (inl (le, lt))) =
        ap (λ b. b == 1) (bit_at-shl_from (2 ^ len - 1) off k le h ∙ bit_at_ones len (k - off) (omega arith)) ∙ sym (inside off len k le lt)
    at k h (inr (inr (le, ge))) =
        ap (λ b. b == 1) (bit_at-shl_from (2 ^ len - 1) off k le h ∙ bit_at_ones_above len (k - off) (omega arith)) ∙ sym (after off len k le ge)

abbrev blank : List ℕ
blank = replicate 64 0

-- the bytes, written over a line of zeros
pub written_over_zeros : (off : ℕ) (bytes : List ℕ) → off + length bytes ≤ 64 → take off (replicate 64 0) ++ (bytes ++ drop (off + length bytes) (replicate 64 0)) ≡ placed_line off bytes
written_over_zeros off bytes room =
    fill_by_all (λ k. if is_within off (length bytes) k then slice_index bytes (k - off) else 0) (take off blank ++ (bytes ++ drop (off + length bytes) blank)) 64 0 whole (λ k h. at k h (places off (length bytes) k))
  where
    wide : length blank ≡ 64
    wide = length-replicate {A = ℕ} 64 0

    front : length (take off blank) ≡ off
    front = length-take off blank ∙ omega (arith, wide)

    back : length (bytes ++ drop (off + length bytes) blank) ≡ 64 - off
    back = length-append bytes (drop (off + length bytes) blank) ∙ omega (arith, wide, length-drop (off + length bytes) blank)

    whole : length (take off blank ++ (bytes ++ drop (off + length bytes) blank)) ≡ 64
    whole = length-append (take off blank) (bytes ++ drop (off + length bytes) blank) ∙ omega (arith, front, back)

    chosen : (k : ℕ) (b : Bool) → is_within off (length bytes) k ≡ b → (if b then slice_index bytes (k - off) else 0) ≡ (if is_within off (length bytes) k then slice_index bytes (k - off) else 0)
    chosen k b e = ap (λ t. if t then slice_index bytes (k - off) else 0) (sym e)

    at : (k : ℕ) → k < 64 → (k < off) ⊎ ((off ≤ k) × (k < off + length bytes) ⊎ (off ≤ k) × (off + length bytes ≤ k)) → slice_index (take off blank ++ (bytes ++ drop (off + length bytes) blank)) k ≡ (if is_within off (length bytes) k then slice_index bytes (k - off) else 0)
    at k h (inl lt) =
        get_or_append_left (take off blank) (bytes ++ drop (off + length bytes) blank) 0 k (omega (arith, front))
        ∙ get_or-take off blank k 0 lt
        ∙ get_or-replicate 64 k 0 0 h
        ∙ chosen k false (before off (length bytes) k lt)
    at k h (inr (inl (le, lt))) =
        get_or-append_right (take off blank) (bytes ++ drop (off + length bytes) blank) off k 0 front le
        ∙ get_or_append_left bytes (drop (off + length bytes) blank) 0 (k - off) (omega arith)
        ∙ chosen k true (inside off (length bytes) k le lt)
    at k h (inr (inr (le, ge))) =
        get_or-append_right (take off blank) (bytes ++ drop (off + length bytes) blank) off k 0 front le
        ∙ get_or-append_right bytes (drop (off + length bytes) blank) (length bytes) (k - off) 0 refl (omega arith)
        ∙ get_or-drop (off + length bytes) blank (k - off - length bytes) 0
        ∙ get_or-replicate 64 (off + length bytes + (k - off - length bytes)) 0 0 (omega arith)
        ∙ chosen k false (after off (length bytes) k le ge)
