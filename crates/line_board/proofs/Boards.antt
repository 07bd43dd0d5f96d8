-- Lemmas about how the tasks of a board are stored in the lanes of a line. A lane consists of eight bytes.
use Rattle.std.proofs.Common.{◌≡◌, ◌≢◌, ℕ, zero, suc, ◌+◌, ◌-◌, ◌<◌, ◌≤◌, ◌==◌, Bool, true, false, ◌&&◌, nat_le, List, [], ◌∷◌, length, take, drop, get_or, Some, None, refl, ap, sym, ◌∙◌, subst, arith, eq-eqb, ne_eqb, if◌then◌else◌}
use Rattle.std.specs.Prelude.{slice_range}
use Rattle.std.proofs.lemmas.List.{ext_get_or, get_or-take, get_or-drop, length-take, length-drop}
use Rattle.std.proofs.lemmas.List.FromFn.{length-map-range_with_len}
use Rattle.std.proofs.lemmas.List.Folds.{list_all_at}
use Rattle.std.proofs.lemmas.Bool.{le-leb, lt-leb, leb-true, eqb-true}
use Rattle.line_lanes.specs.Lane.{lane_of, lanes_of}
use Rattle.line_lanes.proofs.EachLane.{lanes_of-at}
use Rattle.qolb_model.proofs.Lists.{same_some}
use Rattle.line_board.specs.Board.{are_zeros, count_of, is_board, tasks_of, Stand}

-- all numbers are zero if each is, and each is if all are
pub are_zeros-from : (xs : List ℕ) → ((j : ℕ) → j < length xs → get_or xs j 0 ≡ 0) → are_zeros xs ≡ true
are_zeros-from [] each = refl
are_zeros-from (x ∷ xs) each = rw (eq-eqb x 0 (each 0 (omega arith))) (are_zeros-from xs (λ j h. each (suc j) (omega (arith, h))))

are_zeros-head : (x : ℕ) (xs : List ℕ) → are_zeros (x ∷ xs) ≡ true → (x ≡ 0) × (are_zeros xs ≡ true)
are_zeros-head x xs h = go (x == 0) (are_zeros xs) refl h
  where
    go : (b c : Bool) → (x == 0) ≡ b → (b && c) ≡ true → (x ≡ 0) × (c ≡ true)
    go true true e f = (eqb-true x 0 e, refl)
    go true false e f = absurd (cc f)
    go false c e f = absurd (cc f)

pub are_zeros-at : (xs : List ℕ) → are_zeros xs ≡ true → (j : ℕ) → j < length xs → get_or xs j 0 ≡ 0
are_zeros-at [] all j h = absurd (omega (arith, h))
are_zeros-at (x ∷ xs) all zero h = (are_zeros-head x xs all).0
are_zeros-at (x ∷ xs) all (suc j) h = are_zeros-at xs (are_zeros-head x xs all).1 j (omega (arith, h))

length-lanes : (bytes : List ℕ) → length (lanes_of bytes) ≡ 8
length-lanes bytes = length-map-range_with_len (lane_of bytes) 0 8

-- a line with these tasks, part by part
pub record IsLaid (bytes tasks : List ℕ) : Type 0 where
  pub few : length tasks ≤ 7
  pub count : count_of bytes ≡ length tasks
  pub blank : are_zeros (slice_range bytes 1 8) ≡ true
  pub each : (j : ℕ) → j < length tasks → get_or tasks j 0 ≡ lane_of bytes (j + 1)
  pub unused : (j : ℕ) → length tasks < j → j < 8 → lane_of bytes j ≡ 0

-- the counted lanes, and those behind them
module _ (bytes : List ℕ) (few : count_of bytes ≤ 7) where
  counted : List ℕ
  counted = take (count_of bytes) (drop 1 (lanes_of bytes))

  length-counted : length (take (count_of bytes) (drop 1 (lanes_of bytes))) ≡ count_of bytes
  length-counted = length-take (count_of bytes) (drop 1 (lanes_of bytes)) ∙ omega (arith, length-drop 1 (lanes_of bytes), length-lanes bytes)

  counted-at : (j : ℕ) → j < count_of bytes → get_or (take (count_of bytes) (drop 1 (lanes_of bytes))) j 0 ≡ lane_of bytes (j + 1)
  counted-at j h =
      let place : 1 + j ≡ j + 1 = omega arith in
      get_or-take (count_of bytes) (drop 1 (lanes_of bytes)) j 0 h
      ∙ (get_or-drop 1 (lanes_of bytes) j 0
      ∙ (ap (λ i. get_or (lanes_of bytes) i 0) place
      ∙ lanes_of-at bytes (j + 1) (omega arith)))

  behind-length : length (drop (count_of bytes + 1) (lanes_of bytes)) ≡ 7 - count_of bytes
  behind-length = length-drop (count_of bytes + 1) (lanes_of bytes) ∙ omega (arith, length-lanes bytes)

  behind-at : (j : ℕ) → j < 7 - count_of bytes → get_or (drop (count_of bytes + 1) (lanes_of bytes)) j 0 ≡ lane_of bytes (count_of bytes + 1 + j)
  behind-at j h = get_or-drop (count_of bytes + 1) (lanes_of bytes) j 0 ∙ lanes_of-at bytes (count_of bytes + 1 + j) (omega arith)

  pub unused_zeros : ((j : ℕ) → count_of bytes < j → j < 8 → lane_of bytes j ≡ 0) → are_zeros (drop (count_of bytes + 1) (lanes_of bytes)) ≡ true
  unused_zeros unused = are_zeros-from (drop (count_of bytes + 1) (lanes_of bytes)) (λ j h.
      let below : j < 7 - count_of bytes = omega (arith, h, behind-length) in
      behind-at j below ∙ unused (count_of bytes + 1 + j) (omega arith) (omega (arith, below)))

  pub zeros_unused : are_zeros (drop (count_of bytes + 1) (lanes_of bytes)) ≡ true → (j : ℕ) → count_of bytes < j → j < 8 → lane_of bytes j ≡ 0
  zeros_unused all j above below =
      let place : count_of bytes + 1 + (j - (count_of bytes + 1)) ≡ j = omega arith in
      let within : j - (count_of bytes + 1) < 7 - count_of bytes = omega arith in
      ap (lane_of bytes) (sym place) ∙ (sym (behind-at (j - (count_of bytes + 1)) within)
      ∙ are_zeros-at (drop (count_of bytes + 1) (lanes_of bytes)) all (j - (count_of bytes + 1)) (omega (arith, within, behind-length)))

  pub laid-counted : are_zeros (slice_range bytes 1 8) ≡ true → are_zeros (drop (count_of bytes + 1) (lanes_of bytes)) ≡ true → IsLaid bytes (take (count_of bytes) (drop 1 (lanes_of bytes)))
  laid-counted blank all = record {
    few = rw length-counted few;
    count = sym length-counted;
    blank = blank;
    each = λ j h. counted-at j (rw length-counted at h);
    unused = λ j above below. zeros_unused all j (rw length-counted at above) below;
  }

-- a test of three parts passes if each part does
pub is_board-from : (bytes : List ℕ) → count_of bytes ≤ 7 → are_zeros (slice_range bytes 1 8) ≡ true → are_zeros (drop (count_of bytes + 1) (lanes_of bytes)) ≡ true → is_board bytes ≡ true
is_board-from bytes few blank unused = rw (le-leb (count_of bytes) 7 few, blank) unused

-- a line is not a board if one part fails
not_board : (bytes : List ℕ) → is_board bytes ≡ false → tasks_of bytes ≡ None
not_board bytes is = ap (λ b. if b then Some (take (count_of bytes) (drop 1 (lanes_of bytes))) else None) is

second_fails : (a b c : Bool) → b ≡ false → (a && (b && c)) ≡ false
second_fails true b c e = rw e refl
second_fails false b c e = refl

third_fails : (a b c : Bool) → c ≡ false → (a && (b && c)) ≡ false
third_fails true true c e = e
third_fails true false c e = refl
third_fails false b c e = refl

all_pass : (a b c : Bool) → (a && (b && c)) ≡ true → (a ≡ true) × (b ≡ true) × (c ≡ true)
all_pass true true true e = (refl, refl, refl)
all_pass true true false e = absurd (cc e)
all_pass true false c e = absurd (cc e)
all_pass false b c e = absurd (cc e)

pub not_few : (bytes : List ℕ) → 7 < count_of bytes → tasks_of bytes ≡ None
not_few bytes many = not_board bytes (ap (λ b. b && (are_zeros (slice_range bytes 1 8) && are_zeros (drop (count_of bytes + 1) (lanes_of bytes)))) (lt-leb (count_of bytes) 7 many))

pub not_blank : (bytes : List ℕ) → are_zeros (slice_range bytes 1 8) ≡ false → tasks_of bytes ≡ None
not_blank bytes h = not_board bytes (second_fails (nat_le (count_of bytes) 7) (are_zeros (slice_range bytes 1 8)) (are_zeros (drop (count_of bytes + 1) (lanes_of bytes))) h)

pub not_unused : (bytes : List ℕ) → count_of bytes ≤ 7 → (j : ℕ) → count_of bytes < j → j < 8 → lane_of bytes j ≢ 0 → tasks_of bytes ≡ None
not_unused bytes few j above below used =
    let place : count_of bytes + 1 + (j - (count_of bytes + 1)) ≡ j = omega arith in
    let within : j - (count_of bytes + 1) < 7 - count_of bytes = omega arith in
    let there : get_or (drop (count_of bytes + 1) (lanes_of bytes)) (j - (count_of bytes + 1)) 0 ≡ lane_of bytes j =
    behind-at bytes few (j - (count_of bytes + 1)) within ∙ ap (lane_of bytes) place in
    not_board bytes (third_fails (nat_le (count_of bytes) 7) (are_zeros (slice_range bytes 1 8)) (are_zeros (drop (count_of bytes + 1) (lanes_of bytes)))
    (list_all_at (λ n. n == 0) (drop (count_of bytes + 1) (lanes_of bytes)) (j - (count_of bytes + 1)) 0 (omega (arith, within, behind-length bytes few))
    (rw there (ne_eqb (lane_of bytes j) 0 used))))

pub stand-laid : (bytes tasks : List ℕ) → IsLaid bytes tasks → Stand bytes tasks
stand-laid bytes tasks laid =
    let few : count_of bytes ≤ 7 = omega (arith, laid.few, laid.count) in
    let is = is_board-from bytes few laid.blank (unused_zeros bytes few (λ j above below. laid.unused j (omega (arith, above, laid.count)) below)) in
    let same : take (count_of bytes) (drop 1 (lanes_of bytes)) ≡ tasks =
    ext_get_or 0 (take (count_of bytes) (drop 1 (lanes_of bytes))) tasks (length-counted bytes few ∙ laid.count) (λ j h.
    let within : j < count_of bytes = omega (arith, h, length-counted bytes few) in
    counted-at bytes few j within ∙ sym (laid.each j (omega (arith, within, laid.count)))) in
    ap (λ b. if b then Some (take (count_of bytes) (drop 1 (lanes_of bytes))) else None) is ∙ ap (λ t. Some t) same

pub laid-stand : (bytes tasks : List ℕ) → Stand bytes tasks → IsLaid bytes tasks
laid-stand bytes tasks stand = go (is_board bytes) refl
  where
    go : (b : Bool) → is_board bytes ≡ b → IsLaid bytes tasks
    go true is =
        let parts = all_pass (nat_le (count_of bytes) 7) (are_zeros (slice_range bytes 1 8)) (are_zeros (drop (count_of bytes + 1) (lanes_of bytes))) is in
        let same : take (count_of bytes) (drop 1 (lanes_of bytes)) ≡ tasks =
        same_some (sym (ap (λ b. if b then Some (take (count_of bytes) (drop 1 (lanes_of bytes))) else None) is) ∙ stand) in
        subst (IsLaid bytes) same (laid-counted bytes (leb-true (count_of bytes) 7 parts.0) parts.1 parts.2)
    go false is = absurd (let h : None ≡ Some tasks = sym (not_board bytes is) ∙ stand in cc h)
