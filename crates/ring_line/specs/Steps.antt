-- What a port of a ring learns from each atomic step that it takes, as far as this differs from other array locks.
use Rattle.std.specs.Prelude.{◌≡◌, ◌≢◌, ℕ, ◌+◌, ◌%◌, ◌^◌, List, [], ◌∷◌, length}
use Rattle.atomic_table.specs.Table.{Step}
use Rattle.atomic_table.specs.Seated.{TableId}
use Rattle.line_generic.specs.declared.table.Payload.{Payload}
use Rattle.line_cells.specs.declared.local.Point.TheVariants.{Cleared}
use Rattle.ring_line.specs.Layout.{cell_of}
use Rattle.line_cells.specs.SlotLayout.{one_slot}
use Rattle.line_cells.specs.declared.layout.TheConstants.{CELLS}
use Rattle.line_cells.specs.Array.{ArrayGhost}
use Rattle.line_cells.specs.Steps as array
use Rattle.line_cells.specs.Steps.{ArraySeat, SeatContents, single, ghost_of}
use Rattle.ring_line.specs.Layout as layout

-- the cell of the node's last request, and the cell at its turn, as far as the node knows
abbrev pub own_cell : ArraySeat → ℕ
own_cell seat = cell_of (ghost_of seat).own.place

abbrev pub turn_cell : ArraySeat → ℕ
turn_cell seat = cell_of (length (ghost_of seat).view.ends)

-- the seat belongs to the table of a line of n nodes, and has the entry of this node
abbrev pub IsSeatOfNode : ℕ → TableId → ℕ → ArraySeat → Type 0
IsSeatOfNode nodes table_id node seat = array.IsSeatOfNode (λ _. CELLS) nodes table_id node seat

-- A port's token is its cell. The request is not at its turn and not withdrawn; or it is at its turn; or it is not at
-- its turn and withdrawn.
abbrev pub IsStillQueued : ℕ → ArrayGhost → Type 0
IsStillQueued cell w = array.IsStillQueued cell_of cell w

abbrev pub IsAtTurn : ℕ → ArrayGhost → Payload → Type 0
IsAtTurn cell w y = array.IsAtTurn cell_of cell w y

abbrev pub IsRolled : ℕ → ArrayGhost → Type 0
IsRolled cell w = array.IsRolled cell_of cell w

-- the node has cleared the cell at its turn
abbrev pub after_clear : ArrayGhost → ArrayGhost
after_clear v = record v { own = record v.own { point = Cleared }; steps = v.steps + 1 }

abbrev pub cleared : Step Payload → SeatContents → ℕ → SeatContents → Type 0
cleared st m n m' = m' ≡ (after_clear (single m.0) ∷ [], m.1)

-- the node's own cell is blank, so it is not granted
abbrev pub is_blank : ℕ → ℕ → Type 0
is_blank place found = found ≡ 0

abbrev pub is_granted : ℕ → ℕ → Type 0
is_granted place found = found ≢ 0

-- the lower half of the node's own cell is blank, so the cell is not granted
abbrev pub is_blank_half : ℕ → ℕ → Type 0
is_blank_half place found = found % 2 ^ 32 ≡ 0

abbrev pub is_granted_half : ℕ → ℕ → Type 0
is_granted_half place found = found % 2 ^ 32 ≢ 0

-- a next cell that is blank has no withdrawn request; any other has the number of the node that withdrew there
abbrev pub seen : ℕ → ℕ → ℕ
seen place found = found

abbrev pub withdrawn_by : ℕ → ℕ → ℕ
withdrawn_by place found = layout.withdrawn_by found

module _ (allows : List ℕ → List ℕ → Type 0) where
  abbrev pub loaded : Step Payload → SeatContents → ℕ → SeatContents → Type 0
  loaded st m n m' = array.loaded allows cell_of one_slot is_blank is_granted st m n m'

  abbrev pub rolled : Step Payload → SeatContents → ℕ → SeatContents → Type 0
  rolled st m n m' = array.rolled allows cell_of one_slot is_blank is_granted st m n m'

  abbrev pub granted : Step Payload → SeatContents → ℕ → SeatContents → Type 0
  granted st m n m' = array.granted allows one_slot seen withdrawn_by st m n m'
