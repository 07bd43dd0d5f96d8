-- Lemmas about how a board is encoded as the bytes of a line, one lane of eight bytes after another.
use Rattle.std.proofs.Common.{◌≡◌, ◌≢◌, ℕ, zero, suc, ◌+◌, ◌-◌, ◌*◌, ◌/◌, ◌%◌, ◌^◌, ◌<◌, ◌≤◌, ◌⊎◌, inl, inr, List, length, take, drop, get_or, refl, ap, sym, ◌∙◌, arith, eq-eqb, ne_eqb, if◌then◌else◌}
use Rattle.std.specs.Prelude.{slice_index, slice_range}
use Rattle.std.specs.List.{All}
use Rattle.std.proofs.lemmas.List.{ext_get_or, get_or-take, get_or-drop, length-take, length-drop}
use Rattle.std.proofs.lemmas.List.Elements.{All-get_or}
use Rattle.std.proofs.lemmas.List.FromFn.{get_or-map-range_with_len}
use Rattle.std.proofs.lemmas.Bool.{cases_eq, cases_order}
use Rattle.std.proofs.Math.Nat.{div-eq_of_lt, pow-le-pow_right}
use Rattle.std.proofs.lemmas.Simd.{get_or_narrower, Each1-from_get_or}
use lib.Lanes.{digits_l, Each1}
use Rattle.line_lanes.specs.Line.{zeros}
use Rattle.line_lanes.specs.Lane.{lane_of, with_lane_of}
use Rattle.line_lanes.proofs.LaneBytes.{with_lane-at, length-with_lane, lane-with_lane_same, lane-with_lane_other}
use Rattle.line_board.specs.Board.{count_of, Stand}
use Rattle.line_board.proofs.Boards.{IsLaid, are_zeros-from, are_zeros-at, laid-stand}

-- the count and the first `done` tasks are written, and the lanes behind them are zero
pub record IsWritten (bytes tasks : List ℕ) (done : ℕ) : Type 0 where
  pub long : length bytes ≡ 64
  pub small : (i : ℕ) → i < 64 → slice_index bytes i < 256
  pub count : count_of bytes ≡ length tasks
  pub blank : (i : ℕ) → 1 ≤ i → i < 8 → slice_index bytes i ≡ 0
  pub each : (j : ℕ) → j < done → get_or tasks j 0 ≡ lane_of bytes (j + 1)
  pub unused : (j : ℕ) → done < j → j < 8 → lane_of bytes j ≡ 0

-- a line with a lane replaced: its bytes stay below 256, and those of other lanes as they were
module _ (bytes : List ℕ) (k value : ℕ) (long : length bytes ≡ 64) (within : k < 8) (fits : value < 2 ^ 64) where
  kept : (i : ℕ) → i < 64 → i / 8 ≢ k → slice_index (with_lane_of bytes k value) i ≡ slice_index bytes i
  kept i h other = with_lane-at bytes k value i long within fits h ∙ ap (λ b. if b then value / 256 ^ (i % 8) % 256 else slice_index bytes i) (ne_eqb (i / 8) k other)

  laid : (i : ℕ) → i < 64 → i / 8 ≡ k → slice_index (with_lane_of bytes k value) i ≡ value / 256 ^ (i % 8) % 256
  laid i h same = with_lane-at bytes k value i long within fits h ∙ ap (λ b. if b then value / 256 ^ (i % 8) % 256 else slice_index bytes i) (eq-eqb (i / 8) k same)

  stays_small : ((i : ℕ) → i < 64 → slice_index bytes i < 256) → (i : ℕ) → i < 64 → slice_index (with_lane_of bytes k value) i < 256
  stays_small small i h = elim (cases_eq (i / 8) k) [
    | inl same ↦ omega (arith, laid i h same)
    | inr other ↦ omega (arith, kept i h other, small i h)
  ]

zero_byte : (i : ℕ) → i < 64 → slice_index zeros i ≡ 0
zero_byte i h = get_or-map-range_with_len (λ _. 0) 0 64 i i 0 h (omega arith)

zero_lane : (j : ℕ) → j < 8 → lane_of zeros j ≡ 0
zero_lane zero h = refl
zero_lane (suc zero) h = refl
zero_lane (suc (suc zero)) h = refl
zero_lane (suc (suc (suc zero))) h = refl
zero_lane (suc (suc (suc (suc zero)))) h = refl
zero_lane (suc (suc (suc (suc (suc zero))))) h = refl
zero_lane (suc (suc (suc (suc (suc (suc zero)))))) h = refl
zero_lane (suc (suc (suc (suc (suc (suc (suc zero))))))) h = refl
zero_lane (suc (suc (suc (suc (suc (suc (suc (suc j)))))))) h = absurd (omega (arith, h))

high_digit : (n i : ℕ) → n < 256 → 1 ≤ i → n / 256 ^ i % 256 ≡ 0
high_digit n i few some =
    let above : n < 256 ^ i = omega (arith, few, pow-le-pow_right {n = 256} (omega arith) {i = 1} {j = i} some) in
    ap (λ q. q % 256) (div-eq_of_lt above)

-- the line of zeros with the count
pub first_written : (tasks : List ℕ) → length tasks ≤ 7 → IsWritten (with_lane_of zeros 0 (length tasks)) tasks 0
first_written tasks few = record {
  long = length-with_lane zeros 0 (length tasks) refl (omega arith);
  small = stays_small zeros 0 (length tasks) refl (omega arith) (omega arith) (λ i h. omega (arith, zero_byte i h));
  count = laid zeros 0 (length tasks) refl (omega arith) (omega arith) 0 (omega arith) refl ∙ omega arith;
  blank = λ i some low.
      let at : i / 8 ≡ 0 = omega arith in
      let digit : i % 8 ≡ i = omega arith in
      laid zeros 0 (length tasks) refl (omega arith) (omega arith) i (omega arith) at ∙ (ap (λ d. length tasks / 256 ^ d % 256) digit ∙ high_digit (length tasks) i (omega arith) some);
  each = λ j h. absurd (omega arith);
  unused = λ j above below. lane-with_lane_other zeros 0 (length tasks) j refl (omega arith) (omega arith) below (omega arith) ∙ zero_lane j below;
}

-- the board with one more task
pub next_written : (bytes tasks : List ℕ) (done : ℕ) → length tasks ≤ 7 → done < length tasks → get_or tasks done 0 < 2 ^ 64 → IsWritten bytes tasks done → IsWritten (with_lane_of bytes (done + 1) (get_or tasks done 0)) tasks (done + 1)
next_written bytes tasks done few more fits w =
    let task = get_or tasks done 0 in
    let within : done + 1 < 8 = omega (arith, few, more) in
    record {
      long = length-with_lane bytes (done + 1) task w.long within;
      small = stays_small bytes (done + 1) task w.long within fits w.small;
      count = kept bytes (done + 1) task w.long within fits 0 (omega arith) (omega arith) ∙ w.count;
      blank = λ i some low. kept bytes (done + 1) task w.long within fits i (omega arith) (omega arith) ∙ w.blank i some low;
      each = λ j h. elim (cases_eq j done) [
        | inl same ↦ rw same (sym (lane-with_lane_same bytes (done + 1) task w.long within fits))
        | inr other ↦ w.each j (omega arith) ∙ sym (lane-with_lane_other bytes (done + 1) task (j + 1) w.long within fits (omega arith) (omega arith))
      ];
      unused = λ j above below. lane-with_lane_other bytes (done + 1) task j w.long within fits below (omega arith) ∙ w.unused j (omega arith) below;
    }

-- bytes 1 to 7 are those of that part of the line
low-length : (bytes : List ℕ) → length bytes ≡ 64 → length (slice_range bytes 1 8) ≡ 7
low-length bytes long = length-take 7 (drop 1 bytes) ∙ omega (arith, length-drop 1 bytes, long)

low-at : (bytes : List ℕ) (j : ℕ) → j < 7 → get_or (slice_range bytes 1 8) j 0 ≡ slice_index bytes (1 + j)
low-at bytes j h = get_or-take 7 (drop 1 bytes) j 0 h ∙ get_or-drop 1 bytes j 0

-- with all tasks it is the board of these tasks
pub written_laid : (bytes tasks : List ℕ) → length tasks ≤ 7 → IsWritten bytes tasks (length tasks) → IsLaid bytes tasks
written_laid bytes tasks few w = record {
  few = few;
  count = w.count;
  blank = are_zeros-from (slice_range bytes 1 8) (λ j h.
      let below : j < 7 = omega (arith, h, low-length bytes w.long) in
      low-at bytes j below ∙ w.blank (1 + j) (omega arith) (omega arith));
  each = w.each;
  unused = w.unused;
}

-- the lane of small bytes has them as digits
digit_of_lane : (bytes : List ℕ) (k i : ℕ) → length bytes ≡ 64 → ((n : ℕ) → n < 64 → slice_index bytes n < 256) → k < 8 → i < 8 → slice_index bytes (8 * k + i) ≡ get_or (digits_l 256 8 (lane_of bytes k)) i 0
digit_of_lane bytes k i long small within digit =
    let part = take 8 (drop (8 * k) bytes) in
    let rest : length (drop (8 * k) bytes) ≡ 64 - 8 * k = length-drop (8 * k) bytes ∙ omega (arith, long) in
    let whole : length part ≡ 8 = length-take 8 (drop (8 * k) bytes) ∙ omega (arith, rest, within) in
    let each : (n : ℕ) → n < 8 → get_or part n 0 ≡ slice_index bytes (8 * k + n) = λ n h. get_or-take 8 (drop (8 * k) bytes) n 0 h ∙ get_or-drop (8 * k) bytes n 0 in
    let below : Each1 (λ x. x < 256) part = Each1-from_get_or (λ x. x < 256) part 0 (λ n h.
    let n8 : n < 8 = omega (arith, h, whole) in omega (arith, each n n8, small (8 * k + n) (omega arith))) in
    let place : 1 * i + 0 ≡ i = omega arith in
    let one : slice_index bytes (8 * k + i) / 256 ^ 0 % 256 ≡ slice_index bytes (8 * k + i) = omega (arith, small (8 * k + i) (omega arith)) in
    sym one ∙ (ap (λ b. b / 256 ^ 0 % 256) (sym (each i digit)) ∙ (sym (get_or_narrower 256 1 256 8 part i 0 refl below (omega arith) (omega arith)) ∙ ap (λ n. get_or (digits_l 256 8 (lane_of bytes k)) n 0) place))

-- a line with these tasks is the line that was written
module _ (bytes tasks line : List ℕ) (few : length tasks ≤ 7) (w : IsWritten bytes tasks (length tasks)) (long : length line ≡ 64) (small : All (λ byte. byte < 256) line) (stands : Stand line tasks) where
  its : IsLaid line tasks
  its = laid-stand line tasks stands

  line_small : (n : ℕ) → n < 64 → slice_index line n < 256
  line_small n h = All-get_or (λ byte. byte < 256) line n 0 (omega (arith, long)) small

  same_lane : (k : ℕ) → 1 ≤ k → k < 8 → lane_of line k ≡ lane_of bytes k
  same_lane k some h = go (cases_order k (length tasks + 1))
    where
      go : (k ≡ length tasks + 1) ⊎ ((k < length tasks + 1) ⊎ (length tasks + 1 < k)) → lane_of line k ≡ lane_of bytes k
      go (inr (inl lt)) =
          let place : k - 1 + 1 ≡ k = omega arith in
          ap (lane_of line) (sym place) ∙ (sym (its.each (k - 1) (omega arith)) ∙ (w.each (k - 1) (omega arith) ∙ ap (lane_of bytes) place))
      go (inr (inr gt)) = its.unused k (omega arith) h ∙ sym (w.unused k (omega arith) h)
      go (inl e) = its.unused k (omega arith) h ∙ sym (w.unused k (omega arith) h)

  same_high : (i : ℕ) → 8 ≤ i → i < 64 → slice_index line i ≡ slice_index bytes i
  same_high i high h =
      let place : 8 * (i / 8) + i % 8 ≡ i = omega arith in
      ap (slice_index line) (sym place)
      ∙ (digit_of_lane line (i / 8) (i % 8) long line_small (omega arith) (omega arith)
      ∙ (ap (λ n. get_or (digits_l 256 8 n) (i % 8) 0) (same_lane (i / 8) (omega arith) (omega arith))
      ∙ (sym (digit_of_lane bytes (i / 8) (i % 8) w.long w.small (omega arith) (omega arith))
      ∙ ap (slice_index bytes) place)))

  same_low : (i : ℕ) → 1 ≤ i → i < 8 → slice_index line i ≡ slice_index bytes i
  same_low i some low =
      let place : 1 + (i - 1) ≡ i = omega arith in
      ap (slice_index line) (sym place) ∙ (sym (low-at line (i - 1) (omega arith))
      ∙ (are_zeros-at (slice_range line 1 8) its.blank (i - 1) (omega (arith, low-length line long)) ∙ sym (w.blank i some low)))

  pub written_only : line ≡ bytes
  written_only = ext_get_or 0 line bytes (long ∙ sym w.long) (λ i h. at i (omega (arith, h, long)))
    where
      at : (i : ℕ) → i < 64 → slice_index line i ≡ slice_index bytes i
      at i h = go (cases_order i 8)
        where
          first : (i : ℕ) → i < 8 → slice_index line i ≡ slice_index bytes i
          first zero low = its.count ∙ sym w.count
          first (suc i) low = same_low (suc i) (omega arith) low

          go : (i ≡ 8) ⊎ ((i < 8) ⊎ (8 < i)) → slice_index line i ≡ slice_index bytes i
          go (inl e) = same_high i (omega arith) h
          go (inr (inl lt)) = first i lt
          go (inr (inr gt)) = same_high i (omega arith) h
