-- The possible outcomes of a request for the mailbox, and of a turn in which a node holds the mailbox. The definitions
-- in this file were made for this project; none is taken from the literature.
use Rattle.std.specs.Prelude.{◌≡◌, ◌≢◌, ◌⊎◌, ℕ, zero, suc, ◌+◌, ◌-◌, ◌%◌, ◌^◌, min, false, List, ◌∷◌, ◌++◌, length, drop, replicate, slice_get, Some}
use Rattle.line_lanes.specs.Lane.{lane_of}
use Rattle.qolb_model.specs.declared.write.Write.{Write}
use Rattle.qolb_model.specs.declared.end.End.{End}
use Rattle.qolb_model.specs.declared.end.End.TheVariants.{Served, Gone}
use Rattle.qolb_model.specs.declared.view.View.{View}
use Rattle.qolb_model.specs.Leases.{closes}
use Rattle.qolb_model.specs.Ends.{bytes_after}
use Rattle.qolb_model.specs.Views.{own, bytes_of}
use Rattle.qolb_model.specs.Enqueueing.{IsBusy}
use Rattle.qolb_model.specs.AtTurn.{IsWithdrawn}
use Rattle.qolb_model.specs.Releasing.{IsTold}
use Rattle.qolb_model.specs.Sums.{sum_of_own, KnowsOwnPlaces}

-- no new request, because an earlier withdrawn one has not been passed yet; or the new request was withdrawn
abbrev pub IsLate : View → View → Type 0
IsLate old new = IsBusy old new ⊎ IsWithdrawn new

-- the request was late (`IsLate`), or the line is closed
abbrev pub HadNoTurn : View → View → Type 0
HadNoTurn old new = IsLate old new ⊎ IsTold new

-- A turn for the port's last request, which found `found` in the first lane and left `left` there. It did not change
-- the other lanes, and closed the line only if it was the last of a lease. Only withdrawn requests ended after it.
pub record HadTurn (found left : ℕ) (new : View) : Type 0 where
  pub before : List End
  pub write : Write
  pub passed : ℕ
  pub ends : new.ends ≡ before ++ Served write (closes new.config.lease before false) ∷ replicate passed Gone
  pub at_turn : slice_get new.order (length before) ≡ Some (own new)
  pub lay : lane_of (bytes_after new.config.opening.bytes before) 0 ≡ found
  pub lies : lane_of (bytes_of new) 0 ≡ left
  pub others : drop 8 (bytes_of new) ≡ drop 8 (bytes_after new.config.opening.bytes before)

-- the turn found a value in the first lane, and left it there
abbrev pub WasFull : View → Type 0
WasFull new = (value : ℕ) × (value ≢ 0) × HadTurn value value new

-- what `does` counts of a turn that changes the bytes in this way, by its first lane
abbrev pub in_lane : (ℕ → ℕ → ℕ) → List ℕ → List ℕ → ℕ
in_lane does old new = does (lane_of old 0) (lane_of new 0)

-- the sum of these counts over the port's own turns
abbrev pub lane_sum_of : (ℕ → ℕ → ℕ) → View → ℕ
lane_sum_of does v = sum_of_own (in_lane does) v

-- The port's own turns between `old` and `new` add up to `total`, whatever `does` counts of a turn that changes the
-- first lane.
pub record Moves (total : (ℕ → ℕ → ℕ) → ℕ) (old new : View) : Type 0 where
  pub places : KnowsOwnPlaces new
  pub sums : (does : ℕ → ℕ → ℕ) → ((lane : ℕ) → does lane lane ≡ 0) → lane_sum_of does new ≡ lane_sum_of does old + total does

-- what a turn put into the mailbox, and what it took
abbrev pub puts : ℕ → ℕ → ℕ
puts old new = new - old

abbrev pub takes : ℕ → ℕ → ℕ
takes old new = old - new

-- 1 for a turn that filled the empty mailbox, and 1 for one that emptied it
abbrev pub fills : ℕ → ℕ → ℕ
fills old new = min new 1 - min old 1

abbrev pub empties : ℕ → ℕ → ℕ
empties old new = min old 1 - min new 1

-- the port's own turns between `old` and `new` put this many values with this sum, and took this many with this sum
pub record Exchanges (many_put put many_taken taken : ℕ) (old new : View) : Type 0 where
  pub places : KnowsOwnPlaces new
  pub filled : lane_sum_of fills new ≡ lane_sum_of fills old + many_put
  pub in_all : lane_sum_of puts new ≡ lane_sum_of puts old + put
  pub emptied : lane_sum_of empties new ≡ lane_sum_of empties old + many_taken
  pub out_all : lane_sum_of takes new ≡ lane_sum_of takes old + taken

-- the port's own turns between `old` and `new` took this many values, and put none; `sum` is their sum modulo 2^64
abbrev pub Takes : ℕ → ℕ → View → View → Type 0
Takes many sum old new = (taken : ℕ) × (sum ≡ taken % 2 ^ 64) × Exchanges 0 0 many taken old new

-- all turns of the port put this many values with this sum, and took this many with this sum
pub record HasExchanged (many_put put many_taken taken : ℕ) (v : View) : Type 0 where
  pub places : KnowsOwnPlaces v
  pub filled : lane_sum_of fills v ≡ many_put
  pub in_all : lane_sum_of puts v ≡ put
  pub emptied : lane_sum_of empties v ≡ many_taken
  pub out_all : lane_sum_of takes v ≡ taken

-- the sum of the numbers 1 to `n`
abbrev pub sum_up_to : ℕ → ℕ
sum_up_to zero = 0
sum_up_to (suc n) = sum_up_to n + suc n

-- all turns of the port put the values 1 to `values`
abbrev pub HasPut : ℕ → View → Type 0
HasPut values v = HasExchanged values (sum_up_to values) 0 0 v

-- all turns of the port took this many values; `sum` is their sum modulo 2^64
abbrev pub HasTaken : ℕ → ℕ → View → Type 0
HasTaken values sum v = (taken : ℕ) × (sum ≡ taken % 2 ^ 64) × HasExchanged 0 0 values taken v

-- two ports of one line: one put the values 1 to `values`, and the other took as many; `sum` is their sum modulo 2^64
pub record IsHandedBy {Port : Type 0} (belongs : Port → Type 0) (view : Port → View) (values sum : ℕ) : Type 0 where
  pub giver : Port
  pub taker : Port
  pub of_giver : belongs giver
  pub of_taker : belongs taker
  pub puts : HasPut values (view giver)
  pub takes : HasTaken values sum (view taker)
