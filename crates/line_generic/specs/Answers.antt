-- What each call of a queue algorithm requires of the calling node, and what the call ensures for this node. These
-- conditions refer to the number of the line's nodes and to the token of the node's port, which is a number that the
-- queue algorithm stores there.
use Rattle.std.specs.Prelude.{◌≡◌, ◌≢◌, ◌⊎◌, ◌≤◌, ℕ, List, [], ◌∷◌, Bool, true, false}
use Rattle.atomic_table.specs.Seated.{TableId}
use Rattle.qolb_model.specs.declared.answer.PortState.{PortState}
use Rattle.qolb_model.specs.declared.answer.PortState.TheVariants as port_state
use Rattle.qolb_model.specs.declared.answer.Enq.{Enq}
use Rattle.qolb_model.specs.declared.answer.Enq.TheVariants as enq
use Rattle.qolb_model.specs.declared.view.View.{View}
use Rattle.qolb_model.specs.declared.config.TheConstants.{MAX_NODES}
use Rattle.qolb_model.specs.PortStates.{state_after}
use Rattle.qolb_model.specs.Ends.{is_closed}
use Rattle.qolb_model.specs.Enqueueing.{IsBusy, IsClear, Asks, IsJoined}
use Rattle.qolb_model.specs.Linking.{Links}
use Rattle.qolb_model.specs.Meeting.{longer}
use Rattle.qolb_model.specs.Calls.{MergesViews}
use Rattle.qolb_model.specs.Releasing.{EndsTurn}
use Rattle.line_generic.specs.declared.discipline.Enqueued.{Enqueued}
use Rattle.line_generic.specs.declared.discipline.Enqueued.TheVariants as enqueued
use Rattle.line_generic.specs.declared.table.LocalCopy.{LocalCopy}
use Rattle.line_generic.specs.declared.table.Payload.{Payload}
use Rattle.line_generic.specs.NodeGhosts.{LineSeat}
use Rattle.line_generic.specs.Slots.{IsCopy}
use Rattle.line_generic.specs.PortPhases.{PortPhases}
use Rattle.line_generic.specs.Ports.{IsStored}
use Rattle.line_generic.specs.Steps.{ghost_of, IsSameSeat, IsSeatOf, IsOwnNode, HasNoSlot, HoldsPayload, IsStillQueued, IsUnlinked, IsRolledBack, IsAtTurn, IsInState, IsNextPayload, own_end, merged_ghost}

-- the seat belongs to the table of a line of n nodes, and has this node's ghost state
abbrev pub IsSeatOfNode : {O : Type 0} → (ℕ → ℕ) → ℕ → TableId → O → ℕ → LineSeat O → Type 0
IsSeatOfNode word_count nodes table_id initial node s = IsSeatOf (word_count nodes) table_id s × IsOwnNode initial nodes node s

-- the line that a node knows has 1 to `MAX_NODES` nodes
abbrev pub HasNodes : View → Type 0
HasNodes v = (1 ≤ v.config.nodes) × (v.config.nodes ≤ MAX_NODES)

-- a request takes as many atomic steps as its kind of line says for the state and the answer, and four at most
pub record CountsRequest (enqueue_steps : PortState → Enq → ℕ → Type 0) (state : PortState) (answer : Enqueued) (steps : ℕ) : Type 0 where
  pub busy : answer ≡ enqueued.Busy → enqueue_steps state enq.Busy steps
  pub queued : answer ≡ enqueued.Queued → enqueue_steps state enq.Queued steps
  pub at_turn : answer ≡ enqueued.AtTurn → enqueue_steps state enq.Granted steps
  pub bound : steps ≤ 4

-- What `look_at_rest` shows: the last request is clear, or it is not clear and the node is busy. The state in which the
-- port is left, with the node's old token, is the old state or idle.
pub record LooksAtRest {O : Type 0} (q : PortPhases O) (state : PortState) (old new : LineSeat O) (left : PortState) (clear : Bool) : Type 0 where
  pub stays : (m : ℕ) → IsInState q state m old → IsInState q left m new
  pub leaves : (left ≡ state) ⊎ (left ≡ port_state.Idle)
  pub count : (ghost_of q.initial new).view.count ≡ (ghost_of q.initial old).view.count
  pub clears : clear ≡ true → IsClear (ghost_of q.initial new).view
  pub busy : clear ≡ false → IsBusy (ghost_of q.initial old).view (ghost_of q.initial new).view

-- two seats with one node each have merged their views; only the first may have slots
pub record HaveMet {O : Type 0} (allows : List ℕ → List ℕ → Type 0) (initial : O) (a b a_then b_then : LineSeat O) : Type 0 where
  pub tables : (a_then.table_id ≡ a.table_id) × (b_then.table_id ≡ b.table_id)
  pub first : a_then.me ≡ (merged_ghost (ghost_of initial a) (ghost_of initial b) ∷ [], a.me.1)
  pub second : b_then.me ≡ (merged_ghost (ghost_of initial b) (ghost_of initial a) ∷ [], [])
  pub tell : MergesViews allows (ghost_of initial a).view (ghost_of initial b).view (ghost_of initial a_then).view (ghost_of initial b_then).view
  pub holder : let v = ghost_of initial a in let u = ghost_of initial b in (v.view.state ≡ port_state.Holding → longer v.view.ends u.view.ends ≡ v.view.ends) × (u.view.state ≡ port_state.Holding → longer u.view.ends v.view.ends ≡ u.view.ends)

module _ {O : Type 0} (q : PortPhases O) (nodes token : ℕ) where
  -- the line has been granted to the node, and is in the slots of its seat
  abbrev pub HasGrant : LineSeat O → Type 0
  HasGrant s = (y : Payload) × q.slots_at_grant nodes token y s.me.1 × IsAtTurn q.holds_open q.holds_closed token (ghost_of q.initial s) y

  -- the node waits: its request is not at its turn, and the seat has no slot
  abbrev pub WaitsOn : LineSeat O → Type 0
  WaitsOn s = HasNoSlot s × IsStillQueued q.in_state token (ghost_of q.initial s)

  -- the node must still link its request to its predecessor's
  abbrev pub IsToLink : LineSeat O → Type 0
  IsToLink s = HasNoSlot s × IsUnlinked q.in_state token (ghost_of q.initial s)

  -- the node has withdrawn its request
  abbrev pub HasRolledBack : LineSeat O → Type 0
  HasRolledBack s = HasNoSlot s × IsRolledBack q.in_state token (ghost_of q.initial s)

  -- what `take` shows: the port has a copy of the granted line and has written nothing; a closed line is stored for the
  -- successor
  pub record Takes (old new : LineSeat O) (copy : LocalCopy) : Type 0 where
    pub seat : IsSameSeat old new × (new.me.0 ≡ old.me.0)
    pub copied : (y : Payload) → q.slots_at_grant nodes token y old.me.1 → IsCopy copy y
    pub kept : (y : Payload) → q.slots_at_grant nodes token y old.me.1 → y.closed ≡ false → q.slots_in_turn nodes token y.turns_left new.me.1
    pub stored : (y : Payload) → q.slots_at_grant nodes token y old.me.1 → y.closed ≡ true → q.slots_at_release nodes token y new.me.1

  -- what `put` shows: the line of this turn is stored for the successor, closed or not
  pub record Puts (old new : LineSeat O) (turn : LocalCopy) (closed : Bool) : Type 0 where
    pub seat : IsSameSeat old new × (new.me.0 ≡ old.me.0)
    pub stored : (y : Payload) × q.slots_at_release nodes token y new.me.1 × IsStored turn closed y

  -- what `ask` shows: the node made no request, because its last one is not clear; or it made one, which is behind
  -- another request, or at its turn with the line
  pub record MakesRequest (state : PortState) (old new : LineSeat O) (answer : Enqueued) : Type 0 where
    pub stays : answer ≡ enqueued.Busy → (m : ℕ) → IsInState q state m old → IsInState q state m new
    pub busy : answer ≡ enqueued.Busy → IsBusy (ghost_of q.initial old).view (ghost_of q.initial new).view
    pub asks : answer ≢ enqueued.Busy → Asks (ghost_of q.initial old).view (ghost_of q.initial new).view
    pub joined : answer ≢ enqueued.Busy → IsJoined (ghost_of q.initial new).view
    pub queued : answer ≡ enqueued.Queued → WaitsOn new
    pub at_turn : answer ≡ enqueued.AtTurn → HasGrant new

  -- what `prepend` shows: the same as `ask`, but a request behind another one is not linked yet
  pub record PutsRequest (state : PortState) (old new : LineSeat O) (answer : Enqueued) : Type 0 where
    pub stays : answer ≡ enqueued.Busy → (m : ℕ) → IsInState q state m old → IsInState q state m new
    pub busy : answer ≡ enqueued.Busy → IsBusy (ghost_of q.initial old).view (ghost_of q.initial new).view
    pub asks : answer ≢ enqueued.Busy → Asks (ghost_of q.initial old).view (ghost_of q.initial new).view
    pub joined : answer ≡ enqueued.AtTurn → IsJoined (ghost_of q.initial new).view
    pub queued : answer ≡ enqueued.Queued → IsToLink new
    pub at_turn : answer ≡ enqueued.AtTurn → HasGrant new

  -- what `look` shows: the request is at its turn with the line, or the node still waits
  pub record PollsWord (old new : LineSeat O) (is_at_turn : Bool) : Type 0 where
    pub count : (ghost_of q.initial new).view.count ≡ (ghost_of q.initial old).view.count
    pub queued : is_at_turn ≡ false → WaitsOn new
    pub at_turn : is_at_turn ≡ true → HasGrant new

  -- what `roll` shows: the request is at its turn with the line, or is withdrawn
  pub record Rolls (old new : LineSeat O) (is_at_turn : Bool) : Type 0 where
    pub count : (ghost_of q.initial new).view.count ≡ (ghost_of q.initial old).view.count
    pub withdrawn : is_at_turn ≡ false → HasRolledBack new
    pub at_turn : is_at_turn ≡ true → HasGrant new

  -- what `link` shows: the request is linked to its predecessor's; if the predecessor left the line for it, it is at
  -- its turn, and otherwise the node waits
  pub record LinksOn (old new : LineSeat O) (is_at_turn : Bool) : Type 0 where
    pub links : Links (ghost_of q.initial old).view (ghost_of q.initial new).view
    pub queued : is_at_turn ≡ false → WaitsOn new
    pub at_turn : is_at_turn ≡ true → HasGrant new

  -- the line was granted to the node closed, and is stored for the successor
  abbrev pub HasStoredClosed : LineSeat O → Type 0
  HasStoredClosed s = (y : Payload) × q.slots_at_release nodes token y s.me.1 × IsAtTurn q.holds_open q.holds_closed token (ghost_of q.initial s) y × (y.closed ≡ true)

  -- what `release` requires: the line is stored for the successor, closed or not, as the payload after the end of the
  -- node's own request
  abbrev pub HasStored : (List ℕ → List ℕ → Type 0) → Bool → LineSeat O → Type 0
  HasStored allows closed s = (y : Payload) × q.slots_at_release nodes token y s.me.1 × HoldsPayload q.holds_open q.holds_closed token (ghost_of q.initial s) y × IsNextPayload allows (ghost_of q.initial s).view y × (y.closed ≡ closed)

  -- what `release` shows: the node does not hold the line, and its request has ended
  pub record HandsOver (old new : LineSeat O) (state : PortState) : Type 0 where
    pub in_state : (m : ℕ) → IsInState q state m new
    pub not_held : state ≢ port_state.Holding
    pub releases : (y : Payload) → q.slots_at_release nodes token y old.me.1 → EndsTurn (ghost_of q.initial old).view (own_end (is_closed (ghost_of q.initial old).view.ends) y) (state_after y.closed) (ghost_of q.initial new).view
