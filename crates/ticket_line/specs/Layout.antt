-- The contents of the words in the table of a ticket line.
use Rattle.std.specs.Prelude.{◌≡◌, ◌<◌, ℕ, ◌+◌, ◌-◌, ◌*◌, ◌/◌, ◌%◌, ◌^◌, List, Bool, ◌==◌, if◌then◌else◌}
use Rattle.line_cells.specs.Counting.{cells_for}
use Rattle.line_cells.specs.Layout as array
use Rattle.line_cells.specs.Layout.{ticket_of}
use Rattle.ticket_line.specs.declared.layout.TheConstants.{NUMBER_UNIT, NUMBERS}

-- the next ticket after this one
abbrev pub ticket_after : ℕ → ℕ
ticket_after ticket = ticket_of (ticket + 1)

-- The number of a ticket. The number of a place is that of its ticket, because NUMBERS divides 2^64.
abbrev pub number : ℕ → ℕ
number ticket = (ticket + 1) % NUMBERS

-- the word of a cell that is granted to a ticket, and the word of a cell where a node has withdrawn the ticket
abbrev pub granted_word : ℕ → ℕ
granted_word ticket = NUMBER_UNIT * number ticket

abbrev pub withdrawn_word : ℕ → ℕ → ℕ
withdrawn_word ticket node = NUMBER_UNIT * number ticket + node

-- the node that had withdrawn a ticket at its cell, or 0
abbrev pub withdrawn_by : ℕ → ℕ → ℕ
withdrawn_by ticket word = if word / NUMBER_UNIT == number ticket then word % NUMBER_UNIT else 0

-- a node that waits with this ticket at a cell with this lower half finds its turn
abbrev pub signals_turn : ℕ → ℕ → Bool
signals_turn ticket low = low == granted_word ticket % 2 ^ 32

-- in a line of n nodes, the number of the last earlier place with the same cell, or 0 if there is none
abbrev pub number_before : ℕ → ℕ → ℕ
number_before nodes place = (place + 1 - cells_for nodes) % NUMBERS

-- the words of a new line: the first cell is granted to the first ticket, and all other words are blank
abbrev pub AreFirst : ℕ → List ℕ → Type 0
AreFirst nodes words = array.AreFirst (cells_for nodes) (granted_word 0) words

-- the cell of a ticket, among the cells that n nodes need
abbrev pub cell_of : ℕ → ℕ → ℕ
cell_of nodes ticket = array.cell_of (cells_for nodes) ticket

abbrev pub word_count : ℕ → ℕ
word_count nodes = array.word_count (cells_for nodes)

-- the word of a ticket's cell is a word of the table
abbrev pub IsCellWord : ℕ → ℕ → ℕ → Type 0
IsCellWord nodes ticket word = (word ≡ array.cell_at (cell_of nodes ticket)) × (word < word_count nodes)
