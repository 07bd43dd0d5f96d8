-- The eight lanes of a line. Lane k is the little-endian number in bytes 8k to 8k + 7. The definitions in this file
-- were made for this project; none is taken from the literature.
use Rattle.std.specs.Prelude.{ℕ, ◌+◌, ◌*◌, ◌^◌, ◌<◌, ◌≤◌, List, ◌++◌, map, sum, take, drop}
use Rattle.std.specs.List.{range_with_len}
use Rattle.std.specs.Simd.Lanes.{number_l, digits_l}

-- lane k of a line
abbrev pub lane_of : List ℕ → ℕ → ℕ
lane_of line k = number_l 256 (take 8 (drop (8 * k) line))

-- the line with lane k replaced, and all other lanes unchanged
abbrev pub with_lane_of : List ℕ → ℕ → ℕ → List ℕ
with_lane_of line k value = take (8 * k) line ++ (digits_l 256 8 value ++ drop (8 * k + 8) line)

-- the eight lanes of a line, which determine its 64 bytes
abbrev pub lanes_of : List ℕ → List ℕ
lanes_of line = map (lane_of line) (range_with_len 0 8)

-- the sum of the eight lanes
abbrev pub lanes_total : List ℕ → ℕ
lanes_total line = sum (lanes_of line)

-- the sum of each lane of two lines
abbrev pub lane_sums : List ℕ → List ℕ → List ℕ
lane_sums a b = map (λ k. lane_of a k + lane_of b k) (range_with_len 0 8)

-- the sum of some lane is above what a lane holds
abbrev pub OverflowsAtSomeLane : List ℕ → List ℕ → Type 0
OverflowsAtSomeLane a b = (k : ℕ) × (k < 8) × (2 ^ 64 ≤ lane_of a k + lane_of b k)
