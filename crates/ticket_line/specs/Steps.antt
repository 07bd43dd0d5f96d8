-- What a port of a ticket line learns from each atomic step that it takes, as far as this depends on ticket numbers.
use Rattle.std.specs.Prelude.{◌≡◌, ◌≢◌, ℕ, ◌+◌, ◌%◌, ◌^◌, List, length}
use Rattle.atomic_table.specs.Table.{Step}
use Rattle.atomic_table.specs.Seated.{TableId}
use Rattle.line_generic.specs.declared.table.Payload.{Payload}
use Rattle.line_cells.specs.Layout.{ticket_of}
use Rattle.line_cells.specs.Counting.{cells_for}
use Rattle.line_cells.specs.Array.{ArrayGhost}
use Rattle.line_cells.specs.Steps as array
use Rattle.line_cells.specs.Steps.{ArraySeat, SeatContents, single, ghost_of}
use Rattle.ticket_line.specs.Layout as layout
use Rattle.ticket_line.specs.Slots.{slot_layout, slots_at_grant, slots_at_release}

-- the ticket of the node's last request; the ticket at its turn, as far as the node knows; and the ticket after that
abbrev pub own_ticket : ArraySeat → ℕ
own_ticket seat = ticket_of (ghost_of seat).own.place

abbrev pub turn_ticket : ArraySeat → ℕ
turn_ticket seat = ticket_of (length (ghost_of seat).view.ends)

abbrev pub next_ticket : ArraySeat → ℕ
next_ticket seat = ticket_of (length (ghost_of seat).view.ends + 1)

-- the seat belongs to the table of a line of n nodes, and has the entry of this node
abbrev pub IsSeatOfNode : ℕ → TableId → ℕ → ArraySeat → Type 0
IsSeatOfNode nodes table_id node seat = array.IsSeatOfNode cells_for nodes table_id node seat

-- the seat's node knows that the line has n nodes
abbrev pub KnowsNodes : ℕ → ArraySeat → Type 0
KnowsNodes nodes seat = (ghost_of seat).view.config.nodes ≡ nodes

-- A port's token is its ticket. The request is not at its turn and not withdrawn; or it is at its turn; or it is not at
-- its turn and withdrawn.
abbrev pub IsStillQueued : ℕ → ArrayGhost → Type 0
IsStillQueued ticket w = array.IsStillQueued ticket_of ticket w

abbrev pub IsAtTurn : ℕ → ArrayGhost → Payload → Type 0
IsAtTurn ticket w y = array.IsAtTurn ticket_of ticket w y

abbrev pub IsRolled : ℕ → ArrayGhost → Type 0
IsRolled ticket w = array.IsRolled ticket_of ticket w

-- the line, of n nodes, was granted to this ticket and is in the seat's slots; or it is stored there for the successor
abbrev pub SlotsAtGrant : ℕ → ℕ → ArraySeat → Payload → Type 0
SlotsAtGrant nodes ticket seat y = slots_at_grant nodes ticket y seat.me.1

abbrev pub SlotsAtRelease : ℕ → ℕ → ArraySeat → Payload → Type 0
SlotsAtRelease nodes ticket seat y = slots_at_release nodes ticket y seat.me.1

-- whether the node's own cell is granted to its own ticket
abbrev pub is_other : ℕ → ℕ → Type 0
is_other place found = found ≢ layout.granted_word (ticket_of place)

abbrev pub is_granted : ℕ → ℕ → Type 0
is_granted place found = found ≡ layout.granted_word (ticket_of place)

-- whether, by the lower half of its word, the node's own cell is granted to its own ticket
abbrev pub is_other_half : ℕ → ℕ → Type 0
is_other_half place found = found % 2 ^ 32 ≢ layout.granted_word (ticket_of place) % 2 ^ 32

abbrev pub is_granted_half : ℕ → ℕ → Type 0
is_granted_half place found = found % 2 ^ 32 ≡ layout.granted_word (ticket_of place) % 2 ^ 32

-- the node that had withdrawn the ticket of the next place, or 0
abbrev pub withdrawn_by : ℕ → ℕ → ℕ
withdrawn_by place found = layout.withdrawn_by (ticket_of place) found

module _ (allows : List ℕ → List ℕ → Type 0) where
  abbrev pub loaded : Step Payload → SeatContents → ℕ → SeatContents → Type 0
  loaded st m n m' = array.loaded allows ticket_of (slot_layout (single m.0).view.config.nodes) is_other is_granted st m n m'

  abbrev pub rolled : Step Payload → SeatContents → ℕ → SeatContents → Type 0
  rolled st m n m' = array.rolled allows ticket_of (slot_layout (single m.0).view.config.nodes) is_other is_granted st m n m'

  abbrev pub handed : Step Payload → SeatContents → ℕ → SeatContents → Type 0
  handed st m n m' = array.granted allows (slot_layout (single m.0).view.config.nodes) withdrawn_by withdrawn_by st m n m'
