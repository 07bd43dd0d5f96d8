-- What a port learns from each atomic step that it takes.
use Rattle.std.specs.Prelude.{◌%◌, ◌^◌, ◌≡◌, ◌≢◌, ℕ, ◌+◌, ◌<◌, ◌≤◌, List, [], ◌∷◌, ◌++◌, length, slice_get, Bool, true, false, Some}
use Rattle.atomic_table.specs.Table.{Step}
use Rattle.atomic_table.specs.Seated.{TableId}
use Rattle.qolb_model.specs.declared.answer.PortState.{PortState}
use Rattle.qolb_model.specs.declared.answer.PortState.TheVariants as port_state
use Rattle.qolb_model.specs.declared.write.Write.{Write}
use Rattle.qolb_model.specs.declared.view.View.{View}
use Rattle.qolb_model.specs.declared.end.End.{End}
use Rattle.qolb_model.specs.declared.end.End.TheVariants.{Served, Told}
use Rattle.qolb_model.specs.Requests.{Lacks}
use Rattle.qolb_model.specs.Leases.{is_last_turn, turns_left}
use Rattle.qolb_model.specs.Ends.{is_closed, bytes_after, MayEnd}
use Rattle.qolb_model.specs.Views.{own, bytes_of, Extends}
use Rattle.qolb_model.specs.Kept.{AreAllowed}
use Rattle.qolb_model.specs.Sound.{Continues}
use Rattle.qolb_model.specs.Linking.{IsLinking}
use Rattle.qolb_model.specs.AtTurn.{IsClearBefore, IsQueued, IsWithdrawn}
use Rattle.qolb_model.specs.Meeting.{longer, merged_view}
use Rattle.qolb_model.specs.Entries.{behind}
use Rattle.qolb_model.specs.Calls.{MergesViews}
use Rattle.qolb_model.specs.declared.config.TheConstants.{MAX_NODES}
use Rattle.line_generic.specs.declared.table.NodeGhost.{NodeGhost}
use Rattle.line_generic.specs.declared.table.Payload.{Payload}
use Rattle.line_generic.specs.NodeGhosts.{no_view, SeatContents, LineSeat}
use Rattle.line_generic.specs.PortPhases.{PortPhases}

abbrev pub single : {O : Type 0} → O → List (NodeGhost O) → NodeGhost O
single initial [] = record { view = no_view; own = initial; steps = 0 }
single initial (e ∷ es) = e

-- the seat has exactly one node
abbrev pub IsOfOneNode : {O : Type 0} → O → SeatContents O → Type 0
IsOfOneNode initial m = m.0 ≡ single initial m.0 ∷ []

-- the ghost state of a seat's only node
abbrev pub ghost_of : {O : Type 0} → O → LineSeat O → NodeGhost O
ghost_of initial s = single initial s.me.0

-- the number of nodes of the seat's line, as its node knows
abbrev pub nodes_of : {O : Type 0} → O → LineSeat O → ℕ
nodes_of initial s = (ghost_of initial s).view.config.nodes

-- both are the same seat
abbrev pub IsSameSeat : {O : Type 0} → LineSeat O → LineSeat O → Type 0
IsSameSeat old new = (new.table_id ≡ old.table_id) × (new.id ≡ old.id)

-- the seat belongs to the table of a line
abbrev pub IsSeatOf : {O : Type 0} → ℕ → TableId → LineSeat O → Type 0
IsSeatOf words table_id seat = (seat.table_id ≡ table_id) × (table_id.words ≡ words) × (0 < words)

-- the seat has the single slot, with this line; or the seat has no slot
abbrev pub HasSlot : {O : Type 0} → LineSeat O → Payload → Type 0
HasSlot seat y = seat.me.1 ≡ (0, y) ∷ []

abbrev pub HasNoSlot : {O : Type 0} → LineSeat O → Type 0
HasNoSlot seat = seat.me.1 ≡ []

-- the seat's node has this number, on a line of n nodes
abbrev pub IsOwnNode : {O : Type 0} → O → ℕ → ℕ → LineSeat O → Type 0
IsOwnNode initial nodes node seat = (node ≡ (ghost_of initial seat).view.node) × (node ≤ MAX_NODES) × (node ≤ nodes) × (nodes_of initial seat ≡ nodes)

-- The seat has the ghost state of one node, which does not hold the line. The node's port is in this state and has this
-- token.
pub record IsInState {O : Type 0} (q : PortPhases O) (state : PortState) (token : ℕ) (s : LineSeat O) : Type 0 where
  pub of_one_node : IsOfOneNode q.initial s.me
  pub stands : q.in_state (nodes_of q.initial s) state token (ghost_of q.initial s).own
  pub shows_state : (ghost_of q.initial s).view.state ≡ state
  pub slot : HasNoSlot s

-- After n atomic steps of its node, the seat still has one node. The node's view is extended and still true of the
-- history, and the steps are counted.
pub record Advances {O : Type 0} (allows : List ℕ → List ℕ → Type 0) (initial : O) (old new : SeatContents O) (n : ℕ) : Type 0 where
  pub of_one_node : IsOfOneNode initial new
  pub extends : Extends (single initial old.0).view (single initial new.0).view
  pub continues : (v : View) → Continues allows v (single initial old.0).view → Continues allows v (single initial new.0).view
  pub steps : (single initial new.0).steps ≡ (single initial old.0).steps + n

-- both are the same seat, n atomic steps later
pub record SeatAdvances {O : Type 0} (allows : List ℕ → List ℕ → Type 0) (initial : O) (s t : LineSeat O) (n : ℕ) : Type 0 where
  pub seat : IsSameSeat s t
  pub advances : Advances allows initial s.me t.me n

-- the request is not at its turn, and not withdrawn
pub record IsStillQueued {O : Type 0} (in_state : ℕ → PortState → ℕ → O → Type 0) (token : ℕ) (w : NodeGhost O) : Type 0 where
  pub stands : in_state w.view.config.nodes port_state.Queued token w.own
  pub queued : IsQueued w.view

-- the request is made, and not linked to its predecessor's yet
pub record IsUnlinked {O : Type 0} (in_state : ℕ → PortState → ℕ → O → Type 0) (token : ℕ) (w : NodeGhost O) : Type 0 where
  pub stands : in_state w.view.config.nodes port_state.Linking token w.own
  pub linking : IsLinking w.view

-- the request is not at its turn, and withdrawn
pub record IsRolledBack {O : Type 0} (in_state : ℕ → PortState → ℕ → O → Type 0) (token : ℕ) (w : NodeGhost O) : Type 0 where
  pub stands : in_state w.view.config.nodes port_state.Rolled token w.own
  pub withdrawn : IsWithdrawn w.view

-- the node has the payload y, open or closed
pub record HoldsPayload {O : Type 0} (holds_open : ℕ → ℕ → O → Type 0) (holds_closed : ℕ → View → O → Payload → Type 0) (token : ℕ) (e : NodeGhost O) (y : Payload) : Type 0 where
  pub holds : is_closed e.view.ends ≡ false → holds_open token (length e.view.ends) e.own
  pub refuses : is_closed e.view.ends ≡ true → holds_closed token e.view e.own y

-- the request is at its turn, with this payload
pub record IsAtTurn {O : Type 0} (holds_open : ℕ → ℕ → O → Type 0) (holds_closed : ℕ → View → O → Payload → Type 0) (token : ℕ) (w : NodeGhost O) (y : Payload) : Type 0 where
  pub has : HoldsPayload holds_open holds_closed token w y
  pub state : w.view.state ≡ port_state.Holding
  pub turn : slice_get w.view.order (length w.view.ends) ≡ Some (own w.view)
  pub unmarked : Lacks w.view.marked (own w.view)
  pub clear : IsClearBefore w.view (length w.view.ends)
  pub bytes : y.bytes.bytes ≡ bytes_of w.view
  pub closed : y.closed ≡ is_closed w.view.ends
  pub turns : y.turns_left ≡ turns_left w.view.config.lease w.view.ends
  pub some_left : is_closed w.view.ends ≡ false → y.turns_left ≢ Some 0
  pub line : length y.bytes.bytes ≡ 64

-- the write of a turn
abbrev pub write_of : Payload → Write
write_of y = record { mask = record { 0 = y.mask.bits }; bytes = y.bytes }

-- the end of a holder's own request: told if the line is closed, and otherwise served with the turn's write
abbrev pub own_end : Bool → Payload → End
own_end true y = Told
own_end false y = Served (write_of y) y.closed

-- `y` is what a release must publish: the payload after the node's own end. That end is legal after the known ones, and
-- the change obeys the line's data invariant.
pub record IsNextPayload (allows : List ℕ → List ℕ → Type 0) (v : View) (y : Payload) : Type 0 where
  pub bytes : bytes_after v.config.opening.bytes (v.ends ++ own_end (is_closed v.ends) y ∷ []) ≡ y.bytes.bytes
  pub closed : is_closed (v.ends ++ own_end (is_closed v.ends) y ∷ []) ≡ y.closed
  pub turns : turns_left v.config.lease (v.ends ++ own_end (is_closed v.ends) y ∷ []) ≡ y.turns_left
  pub may_end : MayEnd (is_closed v.ends) (is_last_turn v.config.lease v.ends) (own_end (is_closed v.ends) y)
  pub allowed : AreAllowed allows (bytes_of v) (own_end (is_closed v.ends) y ∷ [])

abbrev pub merged_ghost : {O : Type 0} → NodeGhost O → NodeGhost O → NodeGhost O
merged_ghost v u = record v { view = merged_view v.view u.view }

-- two ports of one line have merged their views, but a holder learns of no end
abbrev pub after_meet : {O : Type 0} → (List ℕ → List ℕ → Type 0) → O → Step Payload → SeatContents O → ℕ → SeatContents O → Type 0
after_meet allows initial st m n m' = let v = single initial m.0 in let u = single initial (behind m.0) in
    (m' ≡ (merged_ghost v u ∷ merged_ghost u v ∷ [], m.1)) × MergesViews allows v.view u.view (merged_view v.view u.view) (merged_view u.view v.view)
    × (v.view.state ≡ port_state.Holding → longer v.view.ends u.view.ends ≡ v.view.ends) × (u.view.state ≡ port_state.Holding → longer u.view.ends v.view.ends ≡ u.view.ends)

-- all slots of the seat are returned to the table
abbrev pub slots_returned : {O : Type 0} → Step Payload → SeatContents O → ℕ → SeatContents O → Type 0
slots_returned st m n m' = (m'.0 ≡ m.0) × (m'.1 ≡ [])

-- The outcome of a poll by a waiting node with this token. If the lower half of the word that the node found says so
-- (`signals_turn`), the request is at its turn with the line. Otherwise the node still waits. This half is all that the
-- kernel compares before it parks a thread.
pub record PollOutcome {O : Type 0} (q : PortPhases O) (signals_turn : ℕ → ℕ → Bool) (token found : ℕ) (new : SeatContents O) : Type 0 where
  pub queued : signals_turn token (found % 2 ^ 32) ≡ false → (new.1 ≡ []) × IsStillQueued q.in_state token (single q.initial new.0)
  pub at_turn : signals_turn token (found % 2 ^ 32) ≡ true → (y : Payload) × q.slots_at_grant (single q.initial new.0).view.config.nodes token y new.1 × IsAtTurn q.holds_open q.holds_closed token (single q.initial new.0) y
