-- How counting changes the first lane of a line. The definitions in this file were made for this project; none is taken
-- from the literature.
use Rattle.std.specs.Prelude.{◌≡◌, ◌⊎◌, ℕ, ◌+◌, ◌-◌, ◌%◌, ◌^◌, ◌≤◌, List}
use Rattle.line_lanes.specs.Lane.{lane_of}
use Rattle.qolb_model.specs.declared.view.View.{View}
use Rattle.qolb_model.specs.Sums.{sum_of_own, KnowsOwnPlaces, HasNotShut}
use Rattle.qolb_model.specs.Releasing.{IsTold}

-- how much the first lane rose from `old` to `new`, modulo 2^64
abbrev pub rise : List ℕ → List ℕ → ℕ
rise old new = (lane_of new 0 + (2 ^ 64 - lane_of old 0 % 2 ^ 64)) % 2 ^ 64

-- the sum of what the port's own turns added to the first lane
abbrev pub added_by : View → ℕ
added_by v = sum_of_own rise v

-- The port's own turns between `old` and `new` made at most `rounds` additions. None of these turns shut the line.
-- There are fewer than `rounds` only if the port is told that the line is closed.
pub record Adds (rounds : ℕ) (old new : View) : Type 0 where
  pub places : KnowsOwnPlaces new
  pub unshut : HasNotShut old → HasNotShut new
  pub turns : ℕ
  pub few : turns ≤ rounds
  pub added : added_by new ≡ added_by old + turns
  pub all : (turns ≡ rounds) ⊎ IsTold new

-- The port's own turns between `old` and `new` added exactly `many`. None of these turns shut the line.
pub record AddsJust (many : ℕ) (old new : View) : Type 0 where
  pub places : KnowsOwnPlaces new
  pub unshut : HasNotShut old → HasNotShut new
  pub added : added_by new ≡ added_by old + many

-- all turns of the port added `rounds`, and none of them shut the line; or the port is told that the line is closed
pub record HasAdded (rounds : ℕ) (v : View) : Type 0 where
  pub places : KnowsOwnPlaces v
  pub unshut : HasNotShut v
  pub added : (added_by v ≡ rounds) ⊎ IsTold v
