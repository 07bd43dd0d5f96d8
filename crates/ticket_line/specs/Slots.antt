-- The slots of a ticket line. There is one slot for each cell, and the number of cells depends on the number of nodes.
use Rattle.std.specs.Prelude.{◌≡◌, ◌⊎◌, ℕ, List, [], ◌∷◌, Option, slice_index, false}
use Rattle.line_generic.specs.declared.table.Payload.{Payload}
use Rattle.line_generic.specs.Slots.{Slots}
use Rattle.line_cells.specs.Counting.{cells_for}
use Rattle.line_cells.specs.Layout.{ticket_of, ticket_at}
use Rattle.line_cells.specs.SlotLayout.{SlotLayout, IsBehind}
use Rattle.line_cells.proofs.Counting.{some_cells}
use Rattle.ticket_line.specs.Layout.{ticket_after, cell_of}

-- the slot of a ticket's cell
abbrev pub slot_of : ℕ → ℕ → ℕ
slot_of nodes ticket = cell_of nodes ticket

abbrev pub slot_count : ℕ → ℕ
slot_count nodes = cells_for nodes

-- the line was granted to this ticket: it is in the ticket's slot, and the seat has the next slot, too
abbrev pub slots_at_grant : ℕ → ℕ → Payload → Slots → Type 0
slots_at_grant nodes ticket y slots = (z : Payload) × (slots ≡ (slot_of nodes ticket, y) ∷ (slot_of nodes (ticket_after ticket), z) ∷ []) × IsBehind y.turns_left y.closed z

-- the holder has both slots, the next one first, with any contents
abbrev pub slots_in_turn : ℕ → ℕ → Option ℕ → Slots → Type 0
slots_in_turn nodes ticket left slots = (z : Payload) × (x : Payload) × (slots ≡ (slot_of nodes (ticket_after ticket), z) ∷ (slot_of nodes ticket, x) ∷ []) × IsBehind left false z × IsBehind left false x

-- the line is stored in the next slot
abbrev pub slots_at_release : ℕ → ℕ → Payload → Slots → Type 0
slots_at_release nodes ticket y slots = (x : Payload) × (slots ≡ (slot_of nodes (ticket_after ticket), y) ∷ (slot_of nodes ticket, x) ∷ []) × IsBehind y.turns_left y.closed x

-- the slot layout of a ticket line
abbrev pub slot_layout : ℕ → SlotLayout
slot_layout nodes = record {
  cells = cells_for nodes;
  some_cells = some_cells nodes;
  count = slot_count nodes;
  home_slot = λ ended. slot_of nodes (ticket_of ended);
  is_out = λ ended k. (k ≡ slot_of nodes (ticket_of ended)) ⊎ (k ≡ slot_of nodes (ticket_after (ticket_of ended)));
  slots_at_grant = λ ended. slots_at_grant nodes (ticket_of ended);
  slots_at_release = λ ended. slots_at_release nodes (ticket_of ended);
}

-- at the end, the line is in the slot of the ticket that would be taken next
abbrev pub last : ℕ → List ℕ → ℕ
last nodes words = slot_of nodes (slice_index words ticket_at)
