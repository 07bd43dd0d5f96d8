-- Lemmas about masked writes, which change only the bytes in a mask.
use Rattle.std.proofs.Common.{◌≡◌, ℕ, ◌<◌, true, false, Bool, ◌==◌, ◌||◌, List, length, refl, ap, sym, ◌∙◌, arith, if◌then◌else◌}
use Rattle.std.specs.Prelude.{bit_or, slice_index}
use Rattle.std.proofs.lemmas.List.FromFn.{fill_by_all, get_or-map-range_with_len, length-map-range_with_len}
use Rattle.std.proofs.lemmas.Nat.Bits.{bit_at-zero, bit_at_ones}
use Rattle.line_lanes.specs.Mask.{is_masked}
use Rattle.line_lanes.specs.Line.{merged}
use Rattle.line_lanes.proofs.MaskBits.{is_masked-or}

pub length-merged : (old new : List ℕ) (mask : ℕ) → length (merged old new mask) ≡ 64
length-merged old new mask = length-map-range_with_len (λ k. if is_masked mask k then slice_index new k else slice_index old k) 0 64

-- byte k of a masked write
pub merged-at : (old new : List ℕ) (mask k : ℕ) → k < 64 → slice_index (merged old new mask) k ≡ (if is_masked mask k then slice_index new k else slice_index old k)
merged-at old new mask k h = get_or-map-range_with_len (λ i. if is_masked mask i then slice_index new i else slice_index old i) 0 64 k k 0 h (omega arith)

-- a line that has each byte of a masked write is that masked write
pub merged-by : (line old new : List ℕ) (mask : ℕ) → length line ≡ 64 → ((k : ℕ) → k < 64 → slice_index line k ≡ (if is_masked mask k then slice_index new k else slice_index old k)) → line ≡ merged old new mask
merged-by line old new mask long at = fill_by_all (λ k. if is_masked mask k then slice_index new k else slice_index old k) line 64 0 long at

-- the empty mask changes nothing
pub merged-none : (old new : List ℕ) → length old ≡ 64 → merged old new 0 ≡ old
merged-none old new long =
    sym (merged-by old old new 0 long (λ k h. sym (ap (λ b. if b == 1 then slice_index new k else slice_index old k) (bit_at-zero k))))

-- a write under the full mask is the new line
pub merged-all : (old new : List ℕ) → length new ≡ 64 → merged old new 18446744073709551615 ≡ new
merged-all old new long =
    sym (merged-by new old new 18446744073709551615 long (λ k h. sym (ap (λ b. if b == 1 then slice_index new k else slice_index old k) (bit_at_ones 64 k h))))

-- a line over itself is that line
pub merged-self : (line : List ℕ) (mask : ℕ) → length line ≡ 64 → merged line line mask ≡ line
merged-self line mask long = sym (merged-by line line line mask long (λ k h. either (slice_index line k) (is_masked mask k)))
  where
    either : (x : ℕ) (b : Bool) → x ≡ (if b then x else x)
    either x true = refl
    either x false = refl

-- two masked writes, one after the other, are one write under both masks
pub merged-twice : (base turn new : List ℕ) (a b : ℕ) → merged base turn a ≡ turn → merged base (merged turn new b) (bit_or a b) ≡ merged turn new b
merged-twice base turn new a b held = sym (merged-by (merged turn new b) base (merged turn new b) (bit_or a b) (length-merged turn new b) at)
  where
    turn_at : (k : ℕ) → k < 64 → is_masked a k ≡ false → slice_index turn k ≡ slice_index base k
    turn_at k h off =
        ap (λ t. slice_index t k) (sym held) ∙ merged-at base turn a k h ∙ ap (λ x. if x then slice_index turn k else slice_index base k) off

    go : (k : ℕ) → k < 64 → (x y : Bool) → is_masked a k ≡ x → is_masked b k ≡ y → slice_index (merged turn new b) k ≡ (if x || y then slice_index (merged turn new b) k else slice_index base k)
    go k h true y e f = refl
    go k h false true e f = refl
    go k h false false e f = merged-at turn new b k h ∙ ap (λ x. if x then slice_index new k else slice_index turn k) f ∙ turn_at k h e

    at : (k : ℕ) → k < 64 → slice_index (merged turn new b) k ≡ (if is_masked (bit_or a b) k then slice_index (merged turn new b) k else slice_index base k)
    at k h =
        go k h (is_masked a k) (is_masked b k) refl refl
        ∙ ap (λ x. if x then slice_index (merged turn new b) k else slice_index base k) (sym (is_masked-or a b k))
