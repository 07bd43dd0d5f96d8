-- Defines where the words of a table are. The table has a ticket counter, a word for each node, and the cells, which
-- are placed between the words of the nodes. Each word is on a cache line of its own. The place of a word does not
-- depend on the number of nodes.
use Rattle.std.specs.Prelude.{◌≡◌, ◌≢◌, ℕ, ◌+◌, ◌*◌, ◌%◌, ◌^◌, ◌<◌, ◌≤◌, List, slice_index}
use Rattle.qolb_model.specs.declared.config.TheConstants.{MAX_NODES}
use Rattle.line_cells.specs.declared.layout.TheConstants.{STRIDE, BEHIND}

abbrev pub ticket_at : ℕ
ticket_at = 0

abbrev pub node_at : ℕ → ℕ
node_at n = STRIDE * n

abbrev pub cell_at : ℕ → ℕ
cell_at c = BEHIND + STRIDE * c

-- the number of words for n cells; there are more cells than nodes
abbrev pub word_count : ℕ → ℕ
word_count cells = STRIDE * cells

-- the number of a node of a line of n nodes, or 0
abbrev pub IsWithin : ℕ → ℕ → Type 0
IsWithin nodes n = (n ≤ MAX_NODES) × (n ≤ nodes)

-- the word of each cell
abbrev pub cells_in : List ℕ → ℕ → ℕ
cells_in words c = slice_index words (cell_at c)

-- the ticket of the request at a place of the order, which fits a word
abbrev pub ticket_of : ℕ → ℕ
ticket_of place = place % 2 ^ 64

-- The cell of a ticket, of n cells. The cell of a place is that of its ticket if n divides 2^64.
abbrev pub cell_of : ℕ → ℕ → ℕ
cell_of cells ticket = ticket % cells

-- the words of a new line: the first cell is granted, and all other words are blank
abbrev pub AreFirst : ℕ → ℕ → List ℕ → Type 0
AreFirst cells granted words = (slice_index words (cell_at 0) ≡ granted) × ((i : ℕ) → i < word_count cells → i ≢ cell_at 0 → slice_index words i ≡ 0)
