-- Lemmas about the individual bits of a mask.
use Rattle.std.proofs.Common.{◌≡◌, ℕ, zero, suc, ◌+◌, ◌-◌, ◌*◌, ◌/◌, ◌%◌, ◌^◌, ◌<◌, ◌≤◌, min, max, Bool, true, false, not, ◌&&◌, ◌||◌, ◌==◌, List, map, get_or, cond, T, ◌⊎◌, inl, inr, refl, sym, ap, ◌∙◌, subst, arith, mod-lt, zero-lt-suc, le_of_suc-le-suc, not-suc-le-zero, add-zero}
use Rattle.std.specs.Prelude.{bit_and, bit_or}
use Rattle.std.specs.Int.{bit_at}
use Rattle.std.specs.List.{range_with_len}
use Rattle.std.proofs.lemmas.Nat.Bits.{and_pow, bit_at_or, bit_at_and, bit_at_above, bit_at-zero, bit_at-lt, bit_at_cat_low, bit_at_cat_high, same_from_bits_below}
use Rattle.std.proofs.lemmas.List.FromFn.{length-map-range_with_len, get_or-map-range_with_len}
use Rattle.std.proofs.lemmas.Simd.{bit_mask_l, mask_l-lt}
use Rattle.std.proofs.lemmas.Bool.{cases_order}
use Rattle.std.proofs.lemmas.Nat.{pow_pos}
use lib.Pow.{field, mod-mod-pow, shr-shr}
use lib.Lanes.{mask_l}
use Rattle.line_lanes.specs.Mask.{is_masked, mask_by}

bit_cases : (P : ℕ → Type 0) → P 0 → P 1 → (x : ℕ) → x < 2 → P x
bit_cases P p q zero h = p
bit_cases P p q (suc zero) h = q
bit_cases P p q (suc (suc r)) h = absurd (not-suc-le-zero (le_of_suc-le-suc (le_of_suc-le-suc h)))

two_bits : (P : ℕ → ℕ → Type 0) → P 0 0 → P 0 1 → P 1 0 → P 1 1 → (a b i : ℕ) → P (bit_at a i) (bit_at b i)
two_bits P p q r s a b i =
    bit_cases (λ x. P x (bit_at b i)) (bit_cases (P 0) p q (bit_at b i) (bit_at-lt b i)) (bit_cases (P 1) r s (bit_at b i) (bit_at-lt b i)) (bit_at a i) (bit_at-lt a i)

-- a test of each number below n, in a form that computes
abbrev pub upto : (ℕ → Bool) → ℕ → Bool
upto p zero = true
upto p (suc n) = p n && upto p n

both : (a b : Bool) → T (a && b) → T a × T b
both true b h = (tt, h)
both false b h = absurd h

pub upto_sound : (p : ℕ → Bool) (n : ℕ) → T (upto p n) → (i : ℕ) → i < n → T (p i)
upto_sound p zero h i lt = absurd (not-suc-le-zero lt)
upto_sound p (suc n) h i lt = go (upto_sound p n (both (p n) (upto p n) h).1 i) (cases_order i n)
  where
    go : (i < n → T (p i)) → (i ≡ n) ⊎ ((i < n) ⊎ (n < i)) → T (p i)
    go below (inl e) = subst (λ x. T (p x)) (sym e) (both (p n) (upto p n) h).0
    go below (inr (inl l)) = below l
    go below (inr (inr g)) = let no : ⊥ = omega arith in absurd no

abbrev same : Bool → Bool → Bool
same true b = b
same false b = not b

same_is : (a b : Bool) → T (same a b) → a ≡ b
same_is true true h = refl
same_is false false h = refl
same_is true false h = absurd h
same_is false true h = absurd h

-- what a byte under the mask tests: that the mask's byte has the bit of its place
pub and_pow-is_masked : (x j : ℕ) → j < 8 → (bit_and x (2 ^ j) == 2 ^ j) ≡ is_masked x j
and_pow-is_masked x j h =
    ap (λ n. n == 2 ^ j) (and_pow x j)
    ∙ bit_cases (λ b. (b * 2 ^ j == 2 ^ j) ≡ (b == 1)) (same_is _ _ (upto_sound (λ i. same (0 * 2 ^ i == 2 ^ i) false) 8 tt j h)) (same_is _ _ (upto_sound (λ i. same (1 * 2 ^ i == 2 ^ i) true) 8 tt j h)) (bit_at x j) (bit_at-lt x j)

pub bit_at-mod : (n w i : ℕ) → i < w → bit_at (n % 2 ^ w) i ≡ bit_at n i
bit_at-mod n w i h =
    let m = w - i - 1 in
    let e : m + 1 + i ≡ w = omega arith in
    subst (λ v. bit_at (n % 2 ^ v) i ≡ bit_at n i) e (ap (λ x. x % 2) (field n (m + 1) i) ∙ mod-mod-pow (n / 2 ^ i) m 1)

bit_at-shr : (n k i : ℕ) → bit_at (n / 2 ^ k) i ≡ bit_at n (k + i)
bit_at-shr n k i = ap (λ x. x % 2) (shr-shr n k i)

pub is_masked-shr : (n k i : ℕ) → is_masked (n / 2 ^ k) i ≡ is_masked n (k + i)
is_masked-shr n k i = ap (λ x. x == 1) (bit_at-shr n k i)

-- `n << k` has no bit below k
pub bit_at-shl_below : (n k i : ℕ) → i < k → i < 64 → bit_at (n * 2 ^ k % 2 ^ 64) i ≡ 0
bit_at-shl_below n k i lt fits =
    bit_at-mod (n * 2 ^ k) 64 i fits ∙ ap (λ x. bit_at x i) (sym (add-zero (n * 2 ^ k))) ∙ bit_at_cat_low n k 0 i lt ∙ bit_at-zero i

-- `n << k` has the bits of n from k on
pub bit_at-shl_from : (n k i : ℕ) → k ≤ i → i < 64 → bit_at (n * 2 ^ k % 2 ^ 64) i ≡ bit_at n (i - k)
bit_at-shl_from n k i le fits =
    bit_at-mod (n * 2 ^ k) 64 i fits ∙ ap (λ x. bit_at x i) (sym (add-zero (n * 2 ^ k))) ∙ bit_at_cat_high n k 0 i (pow_pos k) le

-- bit k of a word is bit k % 8 of its byte k / 8
pub is_masked-byte : (n k : ℕ) → is_masked (n / 2 ^ (8 * (k / 8)) % 256) (k % 8) ≡ is_masked n k
is_masked-byte n k =
    let lt : k % 8 < 8 = mod-lt k (zero-lt-suc 7) in
    let e : 8 * (k / 8) + k % 8 ≡ k = omega arith in
    ap (λ x. x == 1) (bit_at-mod (n / 2 ^ (8 * (k / 8))) 8 (k % 8) lt ∙ bit_at-shr n (8 * (k / 8)) (k % 8) ∙ ap (bit_at n) e)

pub is_masked-mask_l : (ms : List Bool) (i : ℕ) → is_masked (mask_l ms) i ≡ get_or ms i false
is_masked-mask_l ms i = ap (λ x. x == 1) (bit_mask_l ms i) ∙ back (get_or ms i false)
  where
    back : (b : Bool) → (cond b 1 0 == 1) ≡ b
    back true = refl
    back false = refl

pub is_masked-and : (a b i : ℕ) → is_masked (bit_and a b) i ≡ (is_masked a i && is_masked b i)
is_masked-and a b i = ap (λ n. n == 1) (bit_at_and a b i) ∙ two_bits (λ x y. (min x y == 1) ≡ ((x == 1) && (y == 1))) refl refl refl refl a b i

pub is_masked-or : (a b i : ℕ) → is_masked (bit_or a b) i ≡ (is_masked a i || is_masked b i)
is_masked-or a b i = ap (λ n. n == 1) (bit_at_or a b i) ∙ two_bits (λ x y. (max x y == 1) ≡ ((x == 1) || (y == 1))) refl refl refl refl a b i

pub is_masked-above : (n k i : ℕ) → n < 2 ^ k → k ≤ i → is_masked n i ≡ false
is_masked-above n k i h le = ap (λ x. x == 1) (bit_at_above n k i h le)

-- two numbers of w bits with the same bits are equal
pub same_from_masked : (w a b : ℕ) → a < 2 ^ w → b < 2 ^ w → ((i : ℕ) → i < w → is_masked a i ≡ is_masked b i) → a ≡ b
same_from_masked w a b small_a small_b same =
    same_from_bits_below w a b small_a small_b (λ i lt. two_bits (λ x y. (x == 1) ≡ (y == 1) → x ≡ y) (λ _. refl) (λ e. cc) (λ e. cc) (λ _. refl) a b i (same i lt))

-- the mask that is made by a test is the number with those bits
pub mask_by-from_bits : (test : ℕ → Bool) (n : ℕ) → n < 2 ^ 64 → ((k : ℕ) → k < 64 → is_masked n k ≡ test k) → n ≡ mask_by test
mask_by-from_bits test n small bits =
    let tests = map test (range_with_len 0 64) in
    same_from_masked 64 n (mask_by test) small (subst (λ l. mask_l tests < 2 ^ l) (length-map-range_with_len test 0 64) (mask_l-lt tests))
    (λ k lt. bits k lt ∙ sym (is_masked-mask_l tests k ∙ get_or-map-range_with_len test 0 64 k k false lt (omega arith)))

pub is_masked-mask_by : (test : ℕ → Bool) (k : ℕ) → k < 64 → is_masked (mask_by test) k ≡ test k
is_masked-mask_by test k h = is_masked-mask_l (map test (range_with_len 0 64)) k ∙ get_or-map-range_with_len test 0 64 k k false h (omega arith)
