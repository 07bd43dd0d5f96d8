-- Defines `cells_for`, the number of cells of a line that has only as many cells as its nodes need. This number is the
-- least power of two that is greater than the number of nodes.
use Rattle.std.specs.Prelude.{ℕ, zero, suc, ◌+◌, ◌-◌, ◌^◌, if◌then◌else◌}
use lib.Dec.{ltb}

-- `least more bits nodes` is the least number of bits, from `bits` to `bits + more`, that can count the nodes
abbrev pub least : ℕ → ℕ → ℕ → ℕ
least zero bits nodes = bits
least (suc more) bits nodes = if ltb nodes (2 ^ bits) then bits else least more (bits + 1) nodes

-- the least power of two above the number of nodes, which is 2 to 256 because there are at most 200 nodes
abbrev pub least_power : ℕ → ℕ
least_power nodes = 2 ^ least 7 1 nodes

-- the number of cells, which is that power (later proofs use only what the lemmas say of it)
unfoldable pub cells_for : ℕ → ℕ
cells_for nodes = least_power nodes

-- the number by which one bit operation finds a ticket's cell
abbrev pub mask_for : ℕ → ℕ
mask_for nodes = cells_for nodes - 1
