-- The contents of the words in the table of a ring.
use Rattle.std.specs.Prelude.{ℕ, ◌/◌, List, Bool, not, ◌==◌}
use Rattle.line_cells.specs.declared.layout.TheConstants.{CELLS}
use Rattle.line_cells.specs.Layout as array
use Rattle.ring_line.specs.declared.layout.TheConstants.{WITHDRAWN_UNIT}

-- the node that withdrew at a cell with this word
abbrev pub withdrawn_by : ℕ → ℕ
withdrawn_by word = word / WITHDRAWN_UNIT

-- a node that waits at a cell with this lower half finds its turn, whatever its token is
abbrev pub signals_turn : ℕ → ℕ → Bool
signals_turn token low = not (low == 0)

-- the words of a new line: the first cell is granted, and all other words are blank
abbrev pub AreFirst : List ℕ → Type 0
AreFirst words = array.AreFirst CELLS 1 words

-- a ring has the same number of cells for any number of nodes
abbrev pub cell_of : ℕ → ℕ
cell_of ticket = array.cell_of CELLS ticket

abbrev pub word_count : ℕ
word_count = array.word_count CELLS
