-- What a port learns from each atomic step that it takes.
use Rattle.std.specs.Prelude.{◌≡◌, ◌≢◌, ℕ, ◌+◌, ◌≤◌, List, [], ◌∷◌, ◌++◌, length, Bool, Some}
use Rattle.atomic_table.specs.Table.{Step}
use Rattle.atomic_table.specs.Seated.{TableId}
use Rattle.qolb_model.specs.declared.answer.PortState.TheVariants as port_state
use Rattle.qolb_model.specs.declared.request.Request.{Request}
use Rattle.qolb_model.specs.declared.end.End.{End}
use Rattle.qolb_model.specs.declared.end.End.TheVariants.{Gone}
use Rattle.qolb_model.specs.declared.config.TheConstants.{MAX_NODES}
use Rattle.qolb_model.specs.Requests.{Has, Lacks, AreOfOthers}
use Rattle.qolb_model.specs.PortStates.{state_after}
use Rattle.qolb_model.specs.Leases.{is_last_turn, turns_left}
use Rattle.qolb_model.specs.Ends.{is_closed, bytes_after, MayEnd}
use Rattle.qolb_model.specs.Histories.{turn_of}
use Rattle.qolb_model.specs.Views.{own, bytes_of}
use Rattle.qolb_model.specs.Kept.{AreAllowed}
use Rattle.qolb_model.specs.Enqueueing.{Asks}
use Rattle.line_generic.specs.declared.table.Payload.{Payload}
use Rattle.line_generic.specs.NodeGhosts as node_ghosts
use Rattle.line_generic.specs.Answers as answers
use Rattle.line_generic.specs.Steps as line
use Rattle.line_generic.specs.Steps.{own_end}
use Rattle.line_cells.specs.declared.local.Point.{Point}
use Rattle.line_cells.specs.declared.local.Point.TheVariants.{Idle, Queued, Passing, Freeing, Rolled}
use Rattle.line_cells.specs.declared.local.Local.{Local}
use Rattle.line_cells.specs.SlotLayout.{SlotLayout}
use Rattle.line_cells.specs.Layout.{word_count, ticket_of}
use Rattle.line_cells.specs.BetweenCalls.{initial, in_state, holds_open, holds_closed}
use Rattle.line_cells.specs.Array.{ArrayGhost, At}

abbrev pub ArraySeat : Type 0
ArraySeat = node_ghosts.LineSeat Local

abbrev pub SeatContents : Type 0
SeatContents = node_ghosts.SeatContents Local

abbrev pub single : List ArrayGhost → ArrayGhost
single = line.single initial

-- the seat has exactly one node
abbrev pub IsOfOneNode : SeatContents → Type 0
IsOfOneNode m = line.IsOfOneNode initial m

-- the ghost state of a seat's only node
abbrev pub ghost_of : ArraySeat → ArrayGhost
ghost_of seat = line.ghost_of initial seat

-- the seat has the ghost state of one node, which is at this point
abbrev pub IsAt : Point → ArraySeat → Type 0
IsAt point seat = IsOfOneNode seat.me × ((ghost_of seat).own.point ≡ point)

-- the seat belongs to the table of a line of n nodes, with the cells that these nodes need, and has this node's ghost
-- state
abbrev pub IsSeatOfNode : (ℕ → ℕ) → ℕ → TableId → ℕ → ArraySeat → Type 0
IsSeatOfNode cells nodes table_id node seat = answers.IsSeatOfNode (λ n. word_count (cells n)) nodes table_id initial node seat

-- after n atomic steps of its node the seat still has one node, whose view is extended
abbrev pub Advances : (List ℕ → List ℕ → Type 0) → SeatContents → SeatContents → ℕ → Type 0
Advances allows old new steps = line.Advances allows initial old new steps

-- both are the same seat, n atomic steps later
abbrev pub SeatAdvances : (List ℕ → List ℕ → Type 0) → ArraySeat → ArraySeat → ℕ → Type 0
SeatAdvances allows old new steps = line.SeatAdvances allows initial old new steps

-- the node took a ticket, and knows all earlier requests
pub record TakesTicket (v w : ArrayGhost) : Type 0 where
  pub point : w.own.point ≡ Queued
  pub state : w.view.state ≡ port_state.Queued
  pub asks : Asks v.view w.view
  pub joined : Has w.view.joined (own w.view)

module _ (token_of : ℕ → ℕ) where
  -- the request is not at its turn and not withdrawn; or it is at its turn; or it is not at its turn and withdrawn
  abbrev pub IsStillQueued : ℕ → ArrayGhost → Type 0
  IsStillQueued token w = line.IsStillQueued (in_state token_of) token w

  abbrev pub IsAtTurn : ℕ → ArrayGhost → Payload → Type 0
  IsAtTurn token w y = line.IsAtTurn (holds_open token_of) (holds_closed token_of) token w y

  abbrev pub IsRolled : ℕ → ArrayGhost → Type 0
  IsRolled token w = line.IsRolledBack (in_state token_of) token w

-- the withdrawn request is clear, or it is not
pub record TellsIfClear (v : ArrayGhost) (found : ℕ) (w : ArrayGhost) : Type 0 where
  pub point : w.own.point ≡ Rolled
  pub state : w.view.state ≡ v.view.state
  pub count : w.view.count ≡ v.view.count
  pub unclear : found ≡ 0 → Lacks w.view.clear (own w.view)
  pub clear : found ≢ 0 → Has w.view.clear (own w.view)

-- the end that the next grant makes: that of the node's own request if it has passed none, and otherwise that of a
-- withdrawn request
abbrev pub end_of : List ℕ → Bool → Payload → End
end_of [] closed y = own_end closed y
end_of (p ∷ ps) closed y = Gone

abbrev pub next_end : ArrayGhost → Payload → End
next_end v y = end_of v.own.passed (is_closed v.view.ends) y

-- a release ends here if it has no passed node to free
abbrev pub after_walk : List ℕ → Point
after_walk [] = Idle
after_walk (p ∷ ps) = Freeing

-- `y` is the payload after the end that the release makes next: that end is legal, and the change obeys the line's data
-- invariant
pub record IsNextPayload (allows : List ℕ → List ℕ → Type 0) (v : ArrayGhost) (y : Payload) : Type 0 where
  pub bytes : bytes_after v.view.config.opening.bytes (v.view.ends ++ next_end v y ∷ []) ≡ y.bytes.bytes
  pub closed : is_closed (v.view.ends ++ next_end v y ∷ []) ≡ y.closed
  pub turns : turns_left v.view.config.lease (v.view.ends ++ next_end v y ∷ []) ≡ y.turns_left
  pub may_end : MayEnd (is_closed v.view.ends) (is_last_turn v.view.config.lease v.view.ends) (next_end v y)
  pub allowed : AreAllowed allows (bytes_of v.view) (next_end v y ∷ [])

-- the request at its turn has ended, and the node knows it
pub record Ended (v w : ArrayGhost) (y : Payload) : Type 0 where
  pub known : length w.view.ends ≤ length w.view.order
  pub ends : w.view.ends ≡ v.view.ends ++ next_end v y ∷ []
  pub state : w.view.state ≡ state_after y.closed
  pub count : w.view.count ≡ v.view.count
  pub own_turn : v.own.passed ≡ [] → At w.view.order (length v.view.ends) (own w.view)

-- the next request is not withdrawn, and the line is at home
pub record IsHandedOver (v w : ArrayGhost) : Type 0 where
  pub point : w.own.point ≡ after_walk v.own.passed
  pub passed : w.own.passed ≡ v.own.passed
  pub unmarked : (r : Request) → turn_of w.view.order w.view.ends ≡ Some r → Lacks w.view.marked r
  pub clear : v.own.passed ≡ [] → Has w.view.clear (own w.view)

-- the next request is withdrawn by this node: the releasing node still has the line, and passes that request
pub record Passes (v : ArrayGhost) (node : ℕ) (w : ArrayGhost) : Type 0 where
  pub point : w.own.point ≡ Passing
  pub passed : w.own.passed ≡ v.own.passed ++ length w.view.ends ∷ []
  pub request : Request
  pub at : At w.view.order (length w.view.ends) request
  pub is_by : request.node ≡ node
  pub high : request.node ≤ w.view.config.nodes
  pub others : AreOfOthers w.view.node w.view.order w.own.passed
  pub few : length w.own.passed + 1 ≤ w.view.config.nodes
  pub nodes : w.view.config.nodes ≤ MAX_NODES

-- the node of the first passed request is freed, and that request is clear; ps are the passed requests that are left
pub record Frees (v : ArrayGhost) (ps : List ℕ) (r : Request) (w : ArrayGhost) : Type 0 where
  pub point : w.own.point ≡ after_walk ps
  pub passed : w.own.passed ≡ ps
  pub state : w.view.state ≡ v.view.state
  pub count : w.view.count ≡ v.view.count
  pub order : w.view.order ≡ v.view.order
  pub ends : w.view.ends ≡ v.view.ends
  pub marked : w.view.marked ≡ v.view.marked
  pub freed : Has w.view.freed r
  pub clear : Has w.view.clear r
  pub own_clear : ps ≡ [] → Has w.view.clear (own w.view)

-- the node has cleared its own word
abbrev pub after_reset : ArrayGhost → ArrayGhost
after_reset v = record v { own = record v.own { point = Idle }; steps = v.steps + 1 }

abbrev pub reset : Step Payload → SeatContents → ℕ → SeatContents → Type 0
reset st m n m' = m' ≡ (after_reset (single m.0) ∷ [], m.1)

module _ (allows : List ℕ → List ℕ → Type 0) where
  abbrev pub drawn : Step Payload → SeatContents → ℕ → SeatContents → Type 0
  drawn st m n m' = (m'.1 ≡ m.1) × Advances allows m m' 1 × (n ≡ ticket_of (single m'.0).own.place) × TakesTicket (single m.0) (single m'.0)

  abbrev pub freed : Step Payload → SeatContents → ℕ → SeatContents → Type 0
  freed st m n m' = (m'.1 ≡ m.1) × Advances allows m m' 1
      × ((q : ℕ) (ps : List ℕ) (r : Request) → (single m.0).own.passed ≡ q ∷ ps → At (single m.0).view.order q r → Frees (single m.0) ps r (single m'.0))

  abbrev pub loaded_node : Step Payload → SeatContents → ℕ → SeatContents → Type 0
  loaded_node st m n m' = (m'.1 ≡ m.1) × Advances allows m m' 1 × TellsIfClear (single m.0) n (single m'.0)

  -- The node loads its own cell, or writes it. By the place of the node's request, the old word says that the node
  -- still waits, or that the line is granted to it.
  module _ (token_of : ℕ → ℕ) (slot_layout : SlotLayout) (waits shows_turn : ℕ → ℕ → Type 0) where
    abbrev pub loaded : Step Payload → SeatContents → ℕ → SeatContents → Type 0
    loaded st m n m' = Advances allows m m' 1 × ((single m'.0).view.count ≡ (single m.0).view.count)
        × (waits (single m.0).own.place n → (m'.1 ≡ m.1) × IsStillQueued token_of (token_of (single m.0).own.place) (single m'.0))
        × (shows_turn (single m.0).own.place n → (y : Payload) × slot_layout.slots_at_grant (single m.0).own.place y m'.1 × IsAtTurn token_of (token_of (single m.0).own.place) (single m'.0) y)

    abbrev pub rolled : Step Payload → SeatContents → ℕ → SeatContents → Type 0
    rolled st m n m' = Advances allows m m' 1 × ((single m'.0).view.count ≡ (single m.0).view.count)
        × (waits (single m.0).own.place n → (m'.1 ≡ m.1) × IsRolled token_of (token_of (single m.0).own.place) (single m'.0))
        × (shows_turn (single m.0).own.place n → (y : Payload) × slot_layout.slots_at_grant (single m.0).own.place y m'.1 × IsAtTurn token_of (token_of (single m.0).own.place) (single m'.0) y)

  -- The next cell is granted. By the place of that cell, the old word is read as 0 if no node withdrew there, and
  -- otherwise names the node that did.
  module _ (slot_layout : SlotLayout) (seen withdrawn_by : ℕ → ℕ → ℕ) where
    abbrev pub granted : Step Payload → SeatContents → ℕ → SeatContents → Type 0
    granted st m n m' = Advances allows m m' 1
        × ((y : Payload) → slot_layout.slots_at_release (length (single m.0).view.ends) y m.1 → Ended (single m.0) (single m'.0) y)
        × (seen (length (single m.0).view.ends + 1) n ≡ 0 → (m'.1 ≡ []) × IsHandedOver (single m.0) (single m'.0))
        × (seen (length (single m.0).view.ends + 1) n ≢ 0 → ((y : Payload) → slot_layout.slots_at_release (length (single m.0).view.ends) y m.1 → slot_layout.slots_at_grant (length (single m.0).view.ends + 1) y m'.1) × Passes (single m.0) (withdrawn_by (length (single m.0).view.ends + 1) n) (single m'.0))
