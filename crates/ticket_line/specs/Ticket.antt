-- The invariant of the table of a ticket line.
use Rattle.std.specs.Prelude.{◌≡◌, ℕ, ◌+◌, ◌/◌, ◌<◌, List, Bool, false}
use Rattle.line_generic.specs.declared.table.TableKey.{TableKey}
use Rattle.line_cells.specs.Counting.{cells_for}
use Rattle.ticket_line.specs.Layout.{cell_of}
use Rattle.line_cells.specs.Array.{ArrayState, ArrayRule}
use Rattle.ticket_line.specs.declared.layout.TheConstants.{NUMBER_UNIT}
use Rattle.ticket_line.specs.Layout.{number, number_before}
use Rattle.ticket_line.specs.Layout as layout
use Rattle.ticket_line.specs.Slots.{slot_layout}

-- The word of a later cell. Either it names the node that withdrew there, or the cell was not granted since the last
-- earlier place with the same cell, and has that place's number.
pub record IsLater (nodes place token word : ℕ) : Type 0 where
  pub withdrawn : 0 < token → word ≡ layout.withdrawn_word place token
  pub before : token ≡ 0 → word / NUMBER_UNIT ≡ number_before nodes place

-- The words of the cells of a line of n nodes. No cell is ever cleared. The cell at its turn has the number of its
-- place, and exactly that number if no node has the line.
pub record TicketCells (nodes ended holder : ℕ) (cleared : Bool) (marks says : ℕ → ℕ) : Type 0 where
  pub kept : cleared ≡ false
  pub turn : says (cell_of nodes ended) / NUMBER_UNIT ≡ number ended
  pub granted : holder ≡ 0 → says (cell_of nodes ended) ≡ layout.granted_word ended
  pub later : (k : ℕ) → 0 < k → k < cells_for nodes → IsLater nodes (ended + k) (marks (ended + k)) (says (cell_of nodes (ended + k)))

-- the invariant of any table of tickets and cells, over these cells
abbrev pub TicketRule : (List ℕ → Type 0) → (List ℕ → List ℕ → Type 0) → TableKey → ArrayState → Type 0
TicketRule good allows key s = ArrayRule (TicketCells key.config.nodes) (slot_layout key.config.nodes) good allows key s
