-- Lemmas about the atomic steps on cells that a node may take if it knows how many nodes the line has.
use Rattle.std.proofs.Common.{◌≡◌, ℕ, ◌+◌, ◌≤◌, true, List, [], ◌∷◌, length, sym, ap, ◌∙◌, subst}
use mathlib.Core.Option.{none}
use Rattle.atomic_table.specs.Table.{Allows, step}
use Rattle.qolb_model.specs.declared.config.TheConstants.{MAX_NODES}
use Rattle.line_generic.specs.declared.table.Payload.{Payload}
use Rattle.line_generic.specs.declared.table.TableKey.{TableKey}
use Rattle.line_generic.specs.Slots.{Slots}
use Rattle.line_cells.specs.declared.local.Point.TheVariants.{Queued}
use Rattle.line_cells.specs.Layout.{cell_at, ticket_of}
use Rattle.line_cells.specs.Array.{ArrayGhost, has_line, is_cleared}
use Rattle.line_cells.specs.Steps as array
use Rattle.line_cells.specs.Steps.{SeatContents, IsNextPayload, single}
use Rattle.line_cells.proofs.Load.{loads_next}
use Rattle.line_cells.proofs.Roll.{rolls_next}
use Rattle.line_cells.proofs.Grant.{grants_next}
use Rattle.ticket_line.specs.Layout.{cell_of, granted_word, withdrawn_word}
use Rattle.ticket_line.specs.Slots.{slot_layout, slots_at_release}
use Rattle.ticket_line.specs.Ticket.{TicketCells, TicketRule}
use Rattle.ticket_line.specs.Steps.{is_other, is_granted, withdrawn_by, loaded, rolled, handed}
use Rattle.ticket_line.proofs.SlotLayout.{take, give, keep, lays_one}
use Rattle.ticket_line.proofs.Cells.{takes, looked, written, stays, withdraws, grants}
use Rattle.ticket_line.proofs.Numbers.{cell_ticket}

module _ (good : List ℕ → Type 0) (allows : List ℕ → List ℕ → Type 0) (key : TableKey) (v : ArrayGhost) (me slots i : ℕ) (m : SeatContents) (sized : (single m.0).view.config.nodes ≡ key.config.nodes) where
  -- a waiting node, and the word of its ticket's cell
  module _ (queued : v.own.point ≡ Queued) (is : m ≡ (v ∷ [], [])) (ticket : ℕ) (own : ticket ≡ ticket_of v.own.place) (word : i ≡ cell_at (cell_of key.config.nodes ticket)) where
    own_word : i ≡ cell_at (cell_of key.config.nodes v.own.place)
    own_word = word ∙ (ap (λ t. cell_at (cell_of key.config.nodes t)) own ∙ ap cell_at (cell_ticket key.config.nodes v.own.place))

    -- the node reads that word
    pub ticket_loads : Allows (TicketRule good allows key) slots me m i (λ n. n) (loaded allows (step slots i 0 0 none) m)
    ticket_loads = subst (λ (n : ℕ). Allows (TicketRule good allows key) slots me m i (λ n. n) (array.loaded allows ticket_of (slot_layout n) is_other is_granted (step slots i 0 0 none) m)) (sym sized)
        (loads_next (TicketCells key.config.nodes) (slot_layout key.config.nodes) good allows key v queued ticket_of is_other is_granted (take key.config.nodes)
        (takes key.config.nodes v.own.place v.view.node (λ n. n) (looked v.own.place)) (stays key.config.nodes v.own.place) me slots i m is own_word)

    -- a node puts its own number there
    pub ticket_rolls : (new : ℕ) → v.view.node ≤ MAX_NODES → new ≡ withdrawn_word (ticket_of v.own.place) v.view.node → Allows (TicketRule good allows key) slots me m i (λ _. new) (rolled allows (step slots i 0 0 none) m)
    ticket_rolls new high says = subst (λ (n : ℕ). Allows (TicketRule good allows key) slots me m i (λ _. new) (array.rolled allows ticket_of (slot_layout n) is_other is_granted (step slots i 0 0 none) m)) (sym sized)
        (rolls_next (TicketCells key.config.nodes) (slot_layout key.config.nodes) good allows key v queued ticket_of is_other is_granted (λ _. new) (take key.config.nodes)
        (takes key.config.nodes v.own.place v.view.node (λ _. new) (λ _ _. written v.own.place v.view.node new high says)) (stays key.config.nodes v.own.place) (withdraws key.config.nodes v.own.place v.view.node new says) me slots i m is own_word)

  -- a node that has laid the line for the next ticket grants that ticket's cell, by its word
  module _ (goes : (a b : List ℕ) → good a → allows a b → good b) (has_it : has_line v.own.point ≡ true) (y : Payload) (carries : IsNextPayload allows v y) (carried : Slots) (is : m ≡ (v ∷ [], carried)) (laid : slots_at_release key.config.nodes (ticket_of (length v.view.ends)) y carried)
      (next : ℕ) (behind : next ≡ ticket_of (length v.view.ends + 1)) (word : i ≡ cell_at (cell_of key.config.nodes next)) where
    next_word : i ≡ cell_at (cell_of key.config.nodes (length v.view.ends + 1))
    next_word = word ∙ (ap (λ t. cell_at (cell_of key.config.nodes t)) behind ∙ ap cell_at (cell_ticket key.config.nodes (length v.view.ends + 1)))

    pub ticket_grants : (new : ℕ) → new ≡ granted_word (ticket_of (length v.view.ends + 1)) → Allows (TicketRule good allows key) slots me m i (λ _. new) (handed allows (step slots i 0 0 none) m)
    ticket_grants new says = subst (λ (n : ℕ). Allows (TicketRule good allows key) slots me m i (λ _. new) (array.granted allows (slot_layout n) withdrawn_by withdrawn_by (step slots i 0 0 none) m)) (sym sized)
        (grants_next (TicketCells key.config.nodes) (slot_layout key.config.nodes) good allows key goes v has_it y carries withdrawn_by withdrawn_by (λ _. new) (give key.config.nodes) (keep key.config.nodes) (lays_one key.config.nodes)
        (grants key.config.nodes (length v.view.ends) new (is_cleared v.own.point) says) me slots i m carried is laid next_word)
