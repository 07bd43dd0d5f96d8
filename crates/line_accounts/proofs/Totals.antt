-- Lemmas about how the balances in a line, and the sum of these balances, change when a lane of the line is written.
use Rattle.std.proofs.Common.{◌≡◌, ◌≢◌, ℕ, ◌+◌, ◌-◌, ◌<◌, ◌≤◌, ◌^◌, inl, inr, List, length, get_or, ap, sym, zero-add, ◌∙◌, subst, arith}
use Rattle.std.specs.List.{sum, sum_by, range_with_len}
use Rattle.std.proofs.Math.ListN.{set}
use Rattle.std.proofs.lemmas.List.{ext_get_or, get_or-set_same, get_or-set_other, length-set}
use Rattle.std.proofs.lemmas.List.FromFn.{length-map-range_with_len, get_or-range_with_len}
use Rattle.std.proofs.lemmas.List.Sums.{sum_by-set, sum-map, get_or-le-sum_by}
use Rattle.std.proofs.lemmas.Bool.{cases_eq}
use Rattle.line_lanes.specs.Lane.{lane_of, with_lane_of, lanes_of, lanes_total}
use Rattle.line_lanes.proofs.EachLane.{lanes_of-at}
use Rattle.line_lanes.proofs.LaneBytes.{lane-with_lane_same, lane-with_lane_other, length-with_lane}
use Rattle.qolb_model.specs.declared.view.View.{View}
use Rattle.line_accounts.specs.Accounts.{AreBalances, StayBalances, HasRoom, credited, debited}
use Rattle.line_accounts.specs.Paid.{rise, fall, paid_by, drawn_by}
use Rattle.line_accounts.specs.Moves.{Pays}
use Rattle.line_accounts.specs.declared.law.TheConstants.{MAX_BALANCE}

-- a line in which lane k was written
module _ (line : List ℕ) (k value : ℕ) (long : length line ≡ 64) (within : k < 8) (small : value < 2 ^ 64) where
  lanes-set : lanes_of (with_lane_of line k value) ≡ set (lanes_of line) k value
  lanes-set = ext_get_or 0 (lanes_of (with_lane_of line k value)) (set (lanes_of line) k value) (many (with_lane_of line k value) ∙ sym (length-set (lanes_of line) k value ∙ many line)) at
    where
      many : (l : List ℕ) → length (lanes_of l) ≡ 8
      many l = length-map-range_with_len (lane_of l) 0 8

      at : (i : ℕ) → i < length (lanes_of (with_lane_of line k value)) → get_or (lanes_of (with_lane_of line k value)) i 0 ≡ get_or (set (lanes_of line) k value) i 0
      at i lt =
          let i8 : i < 8 = omega (arith, lt, many (with_lane_of line k value)) in
          let k8 : k < length (lanes_of line) = omega (arith, many line, within) in
          lanes_of-at (with_lane_of line k value) i i8 ∙ elim (cases_eq i k) [
            | inl e ↦ ap (lane_of (with_lane_of line k value)) e ∙ (lane-with_lane_same line k value long within small ∙ (sym (get_or-set_same (lanes_of line) k value 0 k8) ∙ ap (λ n. get_or (set (lanes_of line) k value) n 0) (sym e)))
            | inr ne ↦ lane-with_lane_other line k value i long within small i8 ne ∙ (sym (lanes_of-at line i i8) ∙ sym (get_or-set_other (lanes_of line) k i value 0 ne))
          ]

  pub total-with_lane : lanes_total (with_lane_of line k value) + lane_of line k ≡ lanes_total line + value
  total-with_lane =
      ap (λ l. sum l + lane_of line k) lanes-set
      ∙ (ap (λ n. sum (set (lanes_of line) k value) + n) (sym (lanes_of-at line k within))
      ∙ sum_by-set (λ x. x) (lanes_of line) k value 0 (omega (arith, length-map-range_with_len (lane_of line) 0 8, within)))

  pub balances-with_lane : AreBalances line → value ≤ MAX_BALANCE → AreBalances (with_lane_of line k value)
  balances-with_lane all low = λ j j8. elim (cases_eq j k) [
    | inl e ↦ subst (λ n. n ≤ MAX_BALANCE) (sym (ap (lane_of (with_lane_of line k value)) e ∙ lane-with_lane_same line k value long within small)) low
    | inr ne ↦ subst (λ n. n ≤ MAX_BALANCE) (sym (lane-with_lane_other line k value j long within small j8 ne)) (all j j8)
  ]

small_sum : (n : ℕ) → n ≤ MAX_BALANCE → n < 2 ^ 64
small_sum n le = omega (arith, le)

pub long-credited : (line : List ℕ) (k amount : ℕ) → length line ≡ 64 → k < 8 → length (credited line k amount) ≡ 64
long-credited line k amount long within = length-with_lane line k (lane_of line k + amount) long within

pub long-debited : (line : List ℕ) (k amount : ℕ) → length line ≡ 64 → k < 8 → length (debited line k amount) ≡ 64
long-debited line k amount long within = length-with_lane line k (lane_of line k - amount) long within

-- deposits and payments out
module _ (line : List ℕ) (k amount : ℕ) (long : length line ≡ 64) (within : k < 8) (all : AreBalances line) where
  low : lane_of line k ≤ MAX_BALANCE
  low = all k within

  small_rest : lane_of line k - amount ≤ MAX_BALANCE
  small_rest = let h = low in omega (arith, h)

  pub credited_stays : HasRoom line k amount → StayBalances line (credited line k amount)
  credited_stays room = (all, balances-with_lane line k (lane_of line k + amount) long within (small_sum (lane_of line k + amount) room) all room)

  pub debited_stays : StayBalances line (debited line k amount)
  debited_stays = (all, balances-with_lane line k (lane_of line k - amount) long within (small_sum (lane_of line k - amount) small_rest) all small_rest)

  pub total-credited : HasRoom line k amount → lanes_total (credited line k amount) ≡ lanes_total line + amount
  total-credited room = plus (lanes_total (credited line k amount)) (lanes_total line) (lane_of line k) amount (total-with_lane line k (lane_of line k + amount) long within (small_sum (lane_of line k + amount) room))
    where
      plus : (a b l n : ℕ) → a + l ≡ b + (l + n) → a ≡ b + n
      plus a b l n e = omega (arith, e)

  pub total-debited : amount ≤ lane_of line k → lanes_total (debited line k amount) + amount ≡ lanes_total line
  total-debited enough = minus (lanes_total (debited line k amount)) (lanes_total line) (lane_of line k) amount enough (total-with_lane line k (lane_of line k - amount) long within (small_sum (lane_of line k - amount) small_rest))
    where
      minus : (a b l n : ℕ) → n ≤ l → a + l ≡ b + (l - n) → a + n ≡ b
      minus a b l n h e = omega (arith, h, e)

  -- another lane is unchanged
  pub lane-debited_other : (j : ℕ) → j < 8 → j ≢ k → lane_of (debited line k amount) j ≡ lane_of line j
  lane-debited_other j j8 ne = lane-with_lane_other line k (lane_of line k - amount) j long within (small_sum (lane_of line k - amount) small_rest) j8 ne

-- a payment out of one lane and into another
module _ (line : List ℕ) (source target amount : ℕ) (long : length line ≡ 64) (from : source < 8) (to : target < 8) (apart : target ≢ source) (all : AreBalances line) where
  other : lane_of (debited line source amount) target ≡ lane_of line target
  other = lane-debited_other line source amount long from all target to apart

  less : AreBalances (debited line source amount)
  less = (debited_stays line source amount long from all).1

  room : HasRoom line target amount → HasRoom (debited line source amount) target amount
  room has = subst (λ n. n + amount ≤ MAX_BALANCE) (sym other) has

  pub no_room : (HasRoom (debited line source amount) target amount → ⊥) → HasRoom line target amount → ⊥
  no_room none has = none (room has)

  pub has_room : HasRoom (debited line source amount) target amount → HasRoom line target amount
  has_room has = subst (λ n. n + amount ≤ MAX_BALANCE) other has

  pub moved_stays : HasRoom (debited line source amount) target amount → StayBalances line (credited (debited line source amount) target amount)
  moved_stays has = (all, (credited_stays (debited line source amount) target amount (long-debited line source amount long from) to less has).1)

  pub total-moved : amount ≤ lane_of line source → HasRoom line target amount → lanes_total (credited (debited line source amount) target amount) ≡ lanes_total line
  total-moved enough has = total-credited (debited line source amount) target amount (long-debited line source amount long from) to less (room has) ∙ total-debited line source amount long from all enough

pub pays_as : {old new : View} {a b c d : ℕ} → Pays old new a b → a ≡ c → b ≡ d → Pays old new c d
pays_as {old} {new} p e f = record {
  paid_in = p.paid_in ∙ ap (λ n. paid_by old + n) e;
  paid_out = p.paid_out ∙ ap (λ n. drawn_by old + n) f;
}

-- a rise and a fall of totals, by their difference
pub rise_by : (a b n : ℕ) → b ≡ a + n → b - a ≡ n
rise_by a b n e = omega (arith, e)

pub rise_none : (a b n : ℕ) → b + n ≡ a → b - a ≡ 0
rise_none a b n e = omega (arith, e)

pub fall_by : (a b n : ℕ) → b + n ≡ a → a - b ≡ n
fall_by a b n e = omega (arith, e)

pub fall_none : (a b n : ℕ) → b ≡ a + n → a - b ≡ 0
fall_none a b n e = omega (arith, e)

-- what a turn of a deposit or of a payment out has paid
pub paid_in : {old new : View} (line : List ℕ) (k amount : ℕ) → length line ≡ 64 → k < 8 → AreBalances line → HasRoom line k amount → Pays old new (rise line (credited line k amount)) (fall line (credited line k amount)) → Pays old new amount 0
paid_in {old} {new} line k amount long within all room p =
    let e = total-credited line k amount long within all room in
    pays_as p (rise_by (lanes_total line) (lanes_total (credited line k amount)) amount e) (fall_none (lanes_total line) (lanes_total (credited line k amount)) amount e)

pub paid_out : {old new : View} (line : List ℕ) (k amount : ℕ) → length line ≡ 64 → k < 8 → AreBalances line → amount ≤ lane_of line k → Pays old new (rise line (debited line k amount)) (fall line (debited line k amount)) → Pays old new 0 amount
paid_out {old} {new} line k amount long within all enough p =
    let e = total-debited line k amount long within all enough in
    pays_as p (rise_none (lanes_total line) (lanes_total (debited line k amount)) amount e) (fall_by (lanes_total line) (lanes_total (debited line k amount)) amount e)

pub moved : {old new : View} (line : List ℕ) (source target amount : ℕ) → length line ≡ 64 → source < 8 → target < 8 → target ≢ source → AreBalances line → amount ≤ lane_of line source → HasRoom line target amount
    → Pays old new (rise line (credited (debited line source amount) target amount)) (fall line (credited (debited line source amount) target amount)) → Pays old new 0 0
moved {old} {new} line source target amount long from to apart all enough room p =
    let e = total-moved line source target amount long from to apart all enough room in
    let left = lanes_total (credited (debited line source amount) target amount) in
    pays_as p (none (lanes_total line) left e) (none left (lanes_total line) (sym e))
  where
    none : (a b : ℕ) → b ≡ a → b - a ≡ 0
    none a b e = omega (arith, e)

-- a turn that changed nothing has paid nothing
pub looked : {old new : View} (line : List ℕ) → Pays old new (rise line line) (fall line line) → Pays old new 0 0
looked line p = pays_as p (none (lanes_total line)) (none (lanes_total line))
  where
    none : (a : ℕ) → a - a ≡ 0
    none a = omega arith

-- a balance is a part of its line's total
pub lane_within : (line : List ℕ) (k : ℕ) → k < 8 → lane_of line k ≤ lanes_total line
lane_within line k within =
    let here : get_or (range_with_len 0 8) k 0 ≡ k = get_or-range_with_len 0 8 k 0 within ∙ zero-add k in
    let part : lane_of line (get_or (range_with_len 0 8) k 0) ≤ sum_by (lane_of line) (range_with_len 0 8) = get_or-le-sum_by (lane_of line) (range_with_len 0 8) k 0 within in
    let whole : lanes_total line ≡ sum_by (lane_of line) (range_with_len 0 8) = sum-map (lane_of line) (range_with_len 0 8) in
    let lane = ap (lane_of line) here in
    omega (arith, part, whole, lane)
