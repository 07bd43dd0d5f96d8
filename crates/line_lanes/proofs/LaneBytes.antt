-- Lemmas about the bytes of a lane.
use Rattle.std.proofs.Common.{◌≡◌, ℕ, ◌+◌, ◌-◌, ◌*◌, ◌/◌, ◌%◌, ◌^◌, ◌<◌, ◌==◌, Bool, true, false, List, [], ◌∷◌, ◌++◌, take, drop, get_or, length, refl, sym, ap, add-zero, zero-add, ◌∙◌, arith, w64, Fits, ◌⊎◌, inl, inr, eq-eqb, ne_eqb, ◌≢◌, if◌then◌else◌}
use Rattle.std.specs.Prelude.{slice_index}
use Rattle.std.proofs.lemmas.Bool.{cases_order}
use Rattle.std.proofs.lemmas.List.{ext_get_or, get_or-take, get_or-drop, length-take, length-drop, length-append, get_or_append_left, get_or-append_right}
use Rattle.std.proofs.lemmas.Simd.{get_or_narrower, below_from_Fits, Each1-get_or}
use Rattle.std.specs.Int.{to_le_bytes}
use lib.Lanes.{number_l, digits_l, Each1}
use Rattle.line_lanes.specs.Lane.{lane_of, with_lane_of}

number-digits : (n : ℕ) → n < 2 ^ 64 → number_l 256 (digits_l 256 8 n) ≡ n
number-digits n h = omega (arith, h)

pub byte_of_value : (value i : ℕ) → value < 2 ^ 64 → i < 8 → get_or (digits_l 256 8 value) i 0 ≡ value / 256 ^ i % 256
byte_of_value value i small h =
    ap (λ v. get_or (digits_l 256 8 v) i 0) (sym (add-zero value))
    ∙ ap (λ j. get_or (digits_l 256 8 (value + 0)) j 0) (sym (zero-add i))
    ∙ get_or_narrower (2 ^ 64) 8 256 8 (value ∷ []) 0 i refl (small, tt) h (omega arith)

-- the bytes of four lanes have those lanes
pub lane-of_bytes : (lanes : List ℕ) (k : ℕ) → length lanes ≡ 4 → Each1 (Fits w64) lanes → k < 4 → lane_of (digits_l 256 32 (number_l (2 ^ 64) lanes)) k ≡ slice_index lanes k
lane-of_bytes lanes k e fits h =
    let n = slice_index lanes k in
    let all = digits_l 256 32 (number_l (2 ^ 64) lanes) in
    let part = take 8 (drop (8 * k) all) in
    let small : n < 2 ^ 64 = (Each1-get_or (Fits w64) lanes k 0 (omega arith) fits).fits in
    let rest : length (drop (8 * k) all) ≡ 32 - 8 * k = length-drop (8 * k) all in
    let long : length part ≡ 8 = length-take 8 (drop (8 * k) all) ∙ omega (arith, rest, h) in
    let each : (i : ℕ) → i < length part → get_or part i 0 ≡ get_or (digits_l 256 8 n) i 0 = λ i lt.
    let i8 : i < 8 = omega (arith, lt, long) in
    get_or-take 8 (drop (8 * k) all) i 0 i8 ∙ get_or-drop (8 * k) all i 0
    ∙ get_or_narrower (2 ^ 64) 8 256 32 lanes k i refl (below_from_Fits w64 lanes fits) i8 (omega arith)
    ∙ sym (byte_of_value n i small i8) in
    ap (number_l 256) (ext_get_or 0 part (digits_l 256 8 n) long each) ∙ number-digits n small

-- byte i of the line with lane k replaced
abbrev pub replaced_byte : List ℕ → ℕ → ℕ → ℕ → ℕ
replaced_byte line k value i = if i / 8 == k then value / 256 ^ (i % 8) % 256 else slice_index line i

pub with_lane-at : (line : List ℕ) (k value i : ℕ) → length line ≡ 64 → k < 8 → value < 2 ^ 64 → i < 64 → slice_index (with_lane_of line k value) i ≡ replaced_byte line k value i
with_lane-at line k value i long within small h = go (cases_order (i / 8) k)
  where
    front : length (take (8 * k) line) ≡ 8 * k
    front = length-take (8 * k) line ∙ omega (arith, long)

    chosen : (b : Bool) → (i / 8 == k) ≡ b → (if b then value / 256 ^ (i % 8) % 256 else slice_index line i) ≡ replaced_byte line k value i
    chosen b e = ap (λ t. if t then value / 256 ^ (i % 8) % 256 else slice_index line i) (sym e)

    kept : i / 8 ≢ k → slice_index line i ≡ replaced_byte line k value i
    kept ne = chosen false (ne_eqb (i / 8) k ne)

    go : (i / 8 ≡ k) ⊎ ((i / 8 < k) ⊎ (k < i / 8)) → slice_index (with_lane_of line k value) i ≡ replaced_byte line k value i
    go (inl e) =
        let place : i - 8 * k ≡ i % 8 = omega arith in
        get_or-append_right (take (8 * k) line) (digits_l 256 8 value ++ drop (8 * k + 8) line) (8 * k) i 0 front (omega arith)
        ∙ get_or_append_left (digits_l 256 8 value) (drop (8 * k + 8) line) 0 (i - 8 * k) (omega arith)
        ∙ ap (λ j. get_or (digits_l 256 8 value) j 0) place
        ∙ byte_of_value value (i % 8) small (omega arith)
        ∙ chosen true (eq-eqb (i / 8) k e)
    go (inr (inl lt)) =
        get_or_append_left (take (8 * k) line) (digits_l 256 8 value ++ drop (8 * k + 8) line) 0 i (omega (arith, front))
        ∙ get_or-take (8 * k) line i 0 (omega arith)
        ∙ kept (omega arith)
    go (inr (inr gt)) =
        let place : 8 * k + 8 + (i - 8 * k - 8) ≡ i = omega arith in
        get_or-append_right (take (8 * k) line) (digits_l 256 8 value ++ drop (8 * k + 8) line) (8 * k) i 0 front (omega arith)
        ∙ get_or-append_right (digits_l 256 8 value) (drop (8 * k + 8) line) 8 (i - 8 * k) 0 refl (omega arith)
        ∙ get_or-drop (8 * k + 8) line (i - 8 * k - 8) 0
        ∙ ap (slice_index line) place
        ∙ kept (omega arith)

pub length-with_lane : (line : List ℕ) (k value : ℕ) → length line ≡ 64 → k < 8 → length (with_lane_of line k value) ≡ 64
length-with_lane line k value long within =
    length-append (take (8 * k) line) (digits_l 256 8 value ++ drop (8 * k + 8) line)
    ∙ omega (arith, length-take (8 * k) line, length-append (digits_l 256 8 value) (drop (8 * k + 8) line), length-drop (8 * k + 8) line, long)

length-lane : (line : List ℕ) (k : ℕ) → length line ≡ 64 → k < 8 → length (take 8 (drop (8 * k) line)) ≡ 8
length-lane line k long within = length-take 8 (drop (8 * k) line) ∙ omega (arith, length-drop (8 * k) line, long)

lane_byte : (line : List ℕ) (k i : ℕ) → i < 8 → get_or (take 8 (drop (8 * k) line)) i 0 ≡ slice_index line (8 * k + i)
lane_byte line k i h = get_or-take 8 (drop (8 * k) line) i 0 h ∙ get_or-drop (8 * k) line i 0

-- the lane that was replaced has the value
pub lane-with_lane_same : (line : List ℕ) (k value : ℕ) → length line ≡ 64 → k < 8 → value < 2 ^ 64 → lane_of (with_lane_of line k value) k ≡ value
lane-with_lane_same line k value long within small =
    ap (number_l 256) (ext_get_or 0 (take 8 (drop (8 * k) (with_lane_of line k value))) (digits_l 256 8 value) whole (λ i h. at i (omega (arith, h, whole)))) ∙ number-digits value small
  where
    whole : length (take 8 (drop (8 * k) (with_lane_of line k value))) ≡ 8
    whole = length-lane (with_lane_of line k value) k (length-with_lane line k value long within) within

    at : (i : ℕ) → i < 8 → get_or (take 8 (drop (8 * k) (with_lane_of line k value))) i 0 ≡ get_or (digits_l 256 8 value) i 0
    at i h =
        let lane : (8 * k + i) / 8 ≡ k = omega arith in
        let place : (8 * k + i) % 8 ≡ i = omega arith in
        lane_byte (with_lane_of line k value) k i h
        ∙ with_lane-at line k value (8 * k + i) long within small (omega arith)
        ∙ ap (λ b. if b then value / 256 ^ ((8 * k + i) % 8) % 256 else slice_index line (8 * k + i)) (eq-eqb ((8 * k + i) / 8) k lane)
        ∙ ap (λ n. value / 256 ^ n % 256) place
        ∙ sym (byte_of_value value i small h)

-- every other lane is as it was
pub lane-with_lane_other : (line : List ℕ) (k value j : ℕ) → length line ≡ 64 → k < 8 → value < 2 ^ 64 → j < 8 → j ≢ k → lane_of (with_lane_of line k value) j ≡ lane_of line j
lane-with_lane_other line k value j long within small lane_within other =
    ap (number_l 256) (ext_get_or 0 (take 8 (drop (8 * j) (with_lane_of line k value))) (take 8 (drop (8 * j) line)) (whole ∙ sym (length-lane line j long lane_within)) (λ i h. at i (omega (arith, h, whole))))
  where
    whole : length (take 8 (drop (8 * j) (with_lane_of line k value))) ≡ 8
    whole = length-lane (with_lane_of line k value) j (length-with_lane line k value long within) lane_within

    at : (i : ℕ) → i < 8 → get_or (take 8 (drop (8 * j) (with_lane_of line k value))) i 0 ≡ get_or (take 8 (drop (8 * j) line)) i 0
    at i h =
        let lane : (8 * j + i) / 8 ≢ k = omega arith in
        lane_byte (with_lane_of line k value) j i h
        ∙ with_lane-at line k value (8 * j + i) long within small (omega arith)
        ∙ ap (λ b. if b then value / 256 ^ ((8 * j + i) % 8) % 256 else slice_index line (8 * j + i)) (ne_eqb ((8 * j + i) / 8) k lane)
        ∙ sym (lane_byte line j i h)

-- the bytes of a number of 64 bits, lowest first
pub low_first : (value : ℕ) → to_le_bytes w64 value ≡ digits_l 256 8 value
low_first value = grind (arith)
