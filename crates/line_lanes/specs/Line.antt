-- Defines a line as a list of 64 bytes. (The 64-byte unit of coherence is from IEEE Std 1596-1992. Masked writes are
-- this project's own.)
use Rattle.std.specs.Prelude.{◌≡◌, ◌<◌, ℕ, ◌-◌, true, if◌then◌else◌, List, map, length, slice_index}
use Rattle.std.specs.List.{range_with_len}
use Rattle.line_lanes.specs.Mask.{is_masked, is_within}

-- the line that has `byte k` at each place k
abbrev pub line_by : (ℕ → ℕ) → List ℕ
line_by byte = map byte (range_with_len 0 64)

-- the line of zeros
abbrev pub zeros : List ℕ
zeros = line_by (λ _. 0)

-- byte k comes from the new line if bit k of the mask is set, and otherwise from the old line
abbrev pub merged : List ℕ → List ℕ → ℕ → List ℕ
merged old new mask = line_by (λ k. if is_masked mask k then slice_index new k else slice_index old k)

-- the bytes at their places from `off` on, and zeros elsewhere
abbrev pub placed_line : ℕ → List ℕ → List ℕ
placed_line off bytes = line_by (λ k. if is_within off (length bytes) k then slice_index bytes (k - off) else 0)

-- all bytes under the mask are equal
abbrev pub AgreeUnder : ℕ → List ℕ → List ℕ → Type 0
AgreeUnder mask a b = (k : ℕ) → k < 64 → is_masked mask k ≡ true → slice_index a k ≡ slice_index b k
