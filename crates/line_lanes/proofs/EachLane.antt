-- Proof that a property holds for every lane of a line if it holds for every lane of both halves.
use Rattle.std.proofs.Common.{◌≡◌, ℕ, ◌+◌, ◌-◌, ◌*◌, ◌<◌, List, ◌++◌, take, drop, length, get_or, ◌⊎◌, inl, inr, sym, ap, ◌∙◌, subst, arith}
use Rattle.std.proofs.lemmas.List.{take-append-le, drop-append-le, length-take, length-drop, take-append-drop}
use Rattle.std.proofs.lemmas.List.FromFn.{fill_by_all, length-map-range_with_len, get_or-map-range_with_len}
use Rattle.std.proofs.Math.Seq.{drop-append-add}
use Rattle.std.proofs.lemmas.Bool.{cases_order}
use lib.Lanes.{number_l}
use Rattle.line_lanes.specs.Lane.{lane_of, lanes_of, lane_sums}

-- a fact of each lane, from the low half and from the high half
pub each_lane : (P : ℕ → Type 0) → ((k : ℕ) → k < 4 → P k) → ((k : ℕ) → k < 4 → P (4 + k)) → (k : ℕ) → k < 8 → P k
each_lane P low high k h = go (cases_order k 4)
  where
    go : (k ≡ 4) ⊎ ((k < 4) ⊎ (4 < k)) → P k
    go (inl e) = subst P (sym e) (high 0 (omega arith))
    go (inr (inl lt)) = low k lt
    go (inr (inr gt)) = let e : 4 + (k - 4) ≡ k = omega arith in subst P e (high (k - 4) (omega arith))

pub joined_low_lane : (low high : List ℕ) (k : ℕ) → length low ≡ 32 → k < 4 → lane_of (low ++ high) k ≡ lane_of low k
joined_low_lane low high k e h =
    ap (λ t. number_l 256 (take 8 t)) (drop-append-le (8 * k) low high (omega arith))
    ∙ ap (number_l 256) (take-append-le 8 (drop (8 * k) low) high (omega (arith, length-drop (8 * k) low)))

pub joined_high_lane : (low high : List ℕ) (k : ℕ) → length low ≡ 32 → lane_of (low ++ high) (4 + k) ≡ lane_of high k
joined_high_lane low high k e =
    let at : 8 * (4 + k) ≡ length low + 8 * k = omega (arith, e) in
    ap (λ n. number_l 256 (take 8 (drop n (low ++ high)))) at ∙ ap (λ t. number_l 256 (take 8 t)) (drop-append-add low high (8 * k))

pub low_lane : (line : List ℕ) (k : ℕ) → length line ≡ 64 → k < 4 → lane_of (take 32 line) k ≡ lane_of line k
low_lane line k long h =
    let half : length (take 32 line) ≡ 32 = length-take 32 line ∙ omega (arith, long) in
    sym (joined_low_lane (take 32 line) (drop 32 line) k half h) ∙ ap (λ t. lane_of t k) (take-append-drop 32 line)

pub high_lane : (line : List ℕ) (k : ℕ) → length line ≡ 64 → lane_of (drop 32 line) k ≡ lane_of line (4 + k)
high_lane line k long =
    let half : length (take 32 line) ≡ 32 = length-take 32 line ∙ omega (arith, long) in
    sym (joined_high_lane (take 32 line) (drop 32 line) k half) ∙ ap (λ t. lane_of t (4 + k)) (take-append-drop 32 line)

-- lane k is one of the line's list of lanes
pub lanes_of-at : (line : List ℕ) (k : ℕ) → k < 8 → get_or (lanes_of line) k 0 ≡ lane_of line k
lanes_of-at line k h = get_or-map-range_with_len (lane_of line) 0 8 k k 0 h (omega arith)

-- a line whose every lane is the sum of that lane of both lines
pub lane_sums-by : (line a b : List ℕ) → ((k : ℕ) → k < 8 → lane_of line k ≡ lane_of a k + lane_of b k) → lanes_of line ≡ lane_sums a b
lane_sums-by line a b each =
    fill_by_all (λ k. lane_of a k + lane_of b k) (lanes_of line) 8 0 (length-map-range_with_len (lane_of line) 0 8) (λ k h. lanes_of-at line k h ∙ each k h)
