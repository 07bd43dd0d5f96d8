-- The data invariant of a line whose first lane never decreases. The definitions in this file were made for this
-- project; none is taken from the literature.
use Rattle.std.specs.Prelude.{ℕ, ◌≤◌, List}
use Rattle.std.proofs.Math.Nat.{le_refl}
use Rattle.line_lanes.specs.Lane.{lane_of}

-- the first lane of the new bytes is at least that of the old bytes
abbrev pub Rises : List ℕ → List ℕ → Type 0
Rises old new = lane_of old 0 ≤ lane_of new 0

-- the data invariant allows a turn that changes nothing
pub rises_by_nothing : (bytes : List ℕ) → Rises bytes bytes
rises_by_nothing bytes = le_refl (lane_of bytes 0)
