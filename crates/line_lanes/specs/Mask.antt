-- A mask is a 64-bit number that represents a set of bytes of a line: bit k is 1 if byte k is in the set. The
-- definitions in this file were made for this project; none is taken from the literature.
use Rattle.std.specs.Prelude.{ℕ, ◌+◌, ◌==◌, ◌&&◌, Bool, not, map, nat_le, nat_lt, List, slice_index}
use Rattle.std.specs.Int.{bit_at}
use Rattle.std.specs.List.{range_with_len}
use Rattle.std.specs.Simd.Lanes.{mask_l}

-- bit k of the mask is set
abbrev pub is_masked : ℕ → ℕ → Bool
is_masked mask k = bit_at mask k == 1

-- the mask whose bit k is set exactly if the test passes at k
abbrev pub mask_by : (ℕ → Bool) → ℕ
mask_by test = mask_l (map test (range_with_len 0 64))

-- place k is one of the `len` places from `off` on
abbrev pub is_within : ℕ → ℕ → ℕ → Bool
is_within off len k = nat_le off k && nat_lt k (off + len)

-- the mask of `len` bytes from place `off` on
abbrev pub placed_mask : ℕ → ℕ → ℕ
placed_mask off len = mask_by (is_within off len)

-- the mask of the places at which two lines differ
abbrev pub changed_mask : List ℕ → List ℕ → ℕ
changed_mask a b = mask_by (λ k. not (slice_index a k == slice_index b k))
