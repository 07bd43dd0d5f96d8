-- The data invariant of the sale of seats: at most `SEATS` seats are sold. The definitions in this file were made for
-- this project; none is taken from the literature.
use Rattle.std.specs.Prelude.{◌≡◌, ◌⊎◌, ℕ, ◌+◌, ◌≤◌, ◌==◌, nat_lt, if◌then◌else◌, List}
use Rattle.line_lanes.specs.Lane.{lane_of}
use Rattle.qolb_model.specs.declared.view.View.{View}
use Rattle.qolb_model.specs.Sums.{sum_of_own, KnowsOwnPlaces, HasNotShut}
use Rattle.qolb_model.specs.Releasing.{IsTold}
use Rattle.example_line.specs.declared.capacity.TheConstants.{SEATS}

-- the first lane counts at most `SEATS` seats
abbrev pub IsWithin : List ℕ → Type 0
IsWithin bytes = lane_of bytes 0 ≤ SEATS

-- a turn that finds the data invariant satisfied leaves it satisfied
abbrev pub StaysWithin : List ℕ → List ℕ → Type 0
StaysWithin old new = IsWithin old → IsWithin new

-- the number of seats sold after one more sale; unchanged if no seat is left
abbrev pub sold_after : ℕ → ℕ
sold_after sold = if nat_lt sold SEATS then sold + 1 else sold

-- 1 for a turn that served a customer: it sold one seat more, or none was left; 0 for any other turn
abbrev pub serves : List ℕ → List ℕ → ℕ
serves old new = if lane_of new 0 == sold_after (lane_of old 0) then 1 else 0

-- 1 for a turn that did anything else to the first lane
abbrev pub spoils : List ℕ → List ℕ → ℕ
spoils old new = if lane_of new 0 == sold_after (lane_of old 0) then 0 else 1

-- The port's own turns between `old` and `new` served customers and did nothing else, and none of them shut the line.
-- They served `customers` customers, or the port is told that the line is closed.
pub record Serves (customers : ℕ) (old new : View) : Type 0 where
  pub places : KnowsOwnPlaces new
  pub unshut : HasNotShut old → HasNotShut new
  pub turns : ℕ
  pub served : sum_of_own serves new ≡ sum_of_own serves old + turns
  pub unspoiled : sum_of_own spoils new ≡ sum_of_own spoils old
  pub all : (turns ≡ customers) ⊎ IsTold new

-- All turns of the port served customers, and none shut the line. They served `customers` customers, or the port is
-- told that the line is closed.
pub record HasServed (customers : ℕ) (v : View) : Type 0 where
  pub places : KnowsOwnPlaces v
  pub unshut : HasNotShut v
  pub served : (sum_of_own serves v ≡ customers) ⊎ IsTold v
  pub unspoiled : sum_of_own spoils v ≡ 0
