-- The invariant of the table of a ring.
use Rattle.std.specs.Prelude.{◌≡◌, ℕ, ◌+◌, ◌*◌, ◌<◌, List, Bool, true}
use Rattle.line_generic.specs.declared.table.TableKey.{TableKey}
use Rattle.line_cells.specs.declared.layout.TheConstants.{CELLS}
use Rattle.ring_line.specs.Layout.{cell_of}
use Rattle.line_cells.specs.SlotLayout.{one_slot}
use Rattle.line_cells.specs.Array.{ArrayState, ArrayRule}
use Rattle.ring_line.specs.declared.layout.TheConstants.{WITHDRAWN_UNIT}

-- The words of the cells. The cell at its turn is blank once it is cleared, and granted if no node has the line. A
-- later cell has the mark of its request.
pub record RingCells (ended holder : ℕ) (cleared : Bool) (marks says : ℕ → ℕ) : Type 0 where
  pub blank : cleared ≡ true → says (cell_of ended) ≡ 0
  pub granted : holder ≡ 0 → says (cell_of ended) ≡ 1
  pub later : (k : ℕ) → 0 < k → k < CELLS → says (cell_of (ended + k)) ≡ WITHDRAWN_UNIT * marks (ended + k)

-- the invariant of any table of tickets and cells, over these cells
abbrev pub RingRule : (List ℕ → Type 0) → (List ℕ → List ℕ → Type 0) → TableKey → ArrayState → Type 0
RingRule good allows key s = ArrayRule RingCells one_slot good allows key s
