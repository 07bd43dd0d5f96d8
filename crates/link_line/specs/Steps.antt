-- What a port learns from each atomic step that it takes.
use Rattle.std.specs.Prelude.{◌≡◌, ◌≢◌, ◌⊎◌, ℕ, ◌+◌, ◌≤◌, ◌==◌, ◌&&◌, not, List, [], ◌∷◌, ◌++◌, length, Bool, true, false, Some}
use Rattle.atomic_table.specs.Table.{Step}
use Rattle.atomic_table.specs.Seated.{TableId}
use Rattle.qolb_model.specs.declared.answer.PortState.{PortState}
use Rattle.qolb_model.specs.declared.answer.PortState.TheVariants as port_state
use Rattle.qolb_model.specs.declared.request.Request.{Request}
use Rattle.qolb_model.specs.declared.end.End.{End}
use Rattle.qolb_model.specs.declared.end.End.TheVariants.{Gone}
use Rattle.qolb_model.specs.Requests.{Has, Lacks, AreOfOthers}
use Rattle.qolb_model.specs.PortStates.{state_after}
use Rattle.qolb_model.specs.Leases.{is_last_turn, turns_left}
use Rattle.qolb_model.specs.Steps.{decrement}
use Rattle.qolb_model.specs.Ends.{is_closed, written}
use Rattle.qolb_model.specs.Histories.{turn_of}
use Rattle.qolb_model.specs.Views.{own, bytes_of}
use Rattle.qolb_model.specs.Enqueueing.{Asks, IsJoined}
use Rattle.qolb_model.specs.Linking.{Links}
use Rattle.qolb_model.specs.Releasing.{SuccessorUnlinked}
use Rattle.link_core.specs.declared.point.Point.{Point}
use Rattle.link_core.specs.declared.point.Point.TheVariants.{Idle, Ready, Holding, Leaving, Marking, Granting, Freeing, Left, Rolled, Shut}
use Rattle.line_generic.specs.declared.table.Payload.{Payload}
use Rattle.line_generic.specs.NodeGhosts as node_ghosts
use Rattle.line_generic.specs.Answers as answers
use Rattle.line_generic.specs.Steps as shared
use Rattle.line_generic.specs.Steps.{write_of, own_end}
use Rattle.link_line.specs.Ghost.{LinkGhost}
use Rattle.link_line.specs.declared.local.LinkLocal.{LinkLocal}
use Rattle.link_line.specs.Layout.{home_at, entry_at, word_count, IsWithin, is_granted, is_rolled, is_done, is_freed, link_of}
use Rattle.link_line.specs.Links.{At}
use Rattle.link_line.specs.BetweenCalls.{initial, in_state, holds_open, holds_closed, phases, wake_word}

-- The definitions of `line_generic`, for the nodes of a list. Where a port's token does not matter, they hold for any
-- token.

abbrev pub LinkSeat : Type 0
LinkSeat = node_ghosts.LineSeat LinkLocal

abbrev pub SeatContents : Type 0
SeatContents = node_ghosts.SeatContents LinkLocal

abbrev pub single : List LinkGhost → LinkGhost
single es = shared.single initial es

abbrev pub IsOfOneNode : SeatContents → Type 0
IsOfOneNode m = shared.IsOfOneNode initial m

abbrev pub ghost_of : LinkSeat → LinkGhost
ghost_of s = shared.ghost_of initial s

abbrev pub IsSeatOf : ℕ → TableId → LinkSeat → Type 0
IsSeatOf nodes table_id seat = shared.IsSeatOf (word_count nodes) table_id seat

abbrev pub IsOwnNode : ℕ → ℕ → LinkSeat → Type 0
IsOwnNode nodes node seat = shared.IsOwnNode initial nodes node seat

-- the seat's node knows that the line has n nodes
abbrev pub KnowsNodes : ℕ → LinkSeat → Type 0
KnowsNodes nodes seat = (ghost_of seat).view.config.nodes ≡ nodes

-- the seat belongs to the table of a line of n nodes, and has this node's ghost state
abbrev pub IsSeatOfNode : ℕ → TableId → ℕ → LinkSeat → Type 0
IsSeatOfNode nodes table_id node seat = answers.IsSeatOfNode word_count nodes table_id initial node seat

abbrev pub Advances : (List ℕ → List ℕ → Type 0) → SeatContents → SeatContents → ℕ → Type 0
Advances allows old new steps = shared.Advances allows initial old new steps

abbrev pub SeatAdvances : (List ℕ → List ℕ → Type 0) → LinkSeat → LinkSeat → ℕ → Type 0
SeatAdvances allows old new steps = shared.SeatAdvances allows initial old new steps

abbrev pub IsInState : PortState → ℕ → LinkSeat → Type 0
IsInState state token s = shared.IsInState phases state token s

-- the request is not at its turn, and not withdrawn
abbrev pub IsStillQueued : LinkGhost → Type 0
IsStillQueued w = (token : ℕ) → shared.IsStillQueued in_state token w

-- the node made a request, and must link it to that of this node
abbrev pub MustLinkTo : ℕ → LinkGhost → Type 0
MustLinkTo predecessor w = shared.IsUnlinked in_state predecessor w

-- the request is not at its turn, and withdrawn
abbrev pub IsRolled : LinkGhost → Type 0
IsRolled w = (token : ℕ) → shared.IsRolledBack in_state token w

-- the request is at its turn, and the line is in the slot
abbrev pub IsAtTurn : LinkGhost → Payload → Type 0
IsAtTurn w y = (token : ℕ) → shared.IsAtTurn holds_open holds_closed token w y

-- the seat has the ghost state of one node, which is at this point
abbrev pub IsAt : Point → LinkSeat → Type 0
IsAt point seat = IsOfOneNode seat.me × ((ghost_of seat).own.seat.point ≡ point)

-- the node's own entry is clear
pub record IsReady (v w : LinkGhost) : Type 0 where
  pub point : w.own.seat.point ≡ Ready
  pub state : w.view.state ≡ port_state.Idle
  pub count : w.view.count ≡ v.view.count

-- by its entry word, the node may make another request after its last one
abbrev pub is_free : Point → ℕ → Bool
is_free Left w = not (link_of w == 0)
is_free Rolled w = is_freed w && not (is_done w && (link_of w == 0))
is_free _ w = false

-- if `clear` is true, the last request is clear, so the node may make another; otherwise it is not clear
pub record TellsIfClear (v : LinkGhost) (clear : Bool) (w : LinkGhost) : Type 0 where
  pub count : w.view.count ≡ v.view.count
  pub is_clear : clear ≡ true → (w.own.seat.point ≡ Idle) × (w.view.state ≡ port_state.Idle)
  pub unclear : clear ≡ false → (w.own.seat.point ≡ v.own.seat.point) × (w.view.state ≡ v.view.state) × Lacks w.view.clear (own w.view)

-- the end that a release makes next: that of the node's own request if it has passed none, and otherwise that of a
-- withdrawn request
abbrev pub end_of : List ℕ → Bool → Payload → End
end_of [] closed y = own_end closed y
end_of (p ∷ ps) closed y = Gone

abbrev pub next_end : LinkGhost → Payload → End
next_end v y = end_of v.own.passed (is_closed v.view.ends) y

-- The turn of a holder is over, with this payload. Its write is allowed, one turn fewer is left, and the last turn has
-- closed the line.
pub record TurnIsOver (allows : List ℕ → List ℕ → Type 0) (v : LinkGhost) (y : Payload) : Type 0 where
  pub bytes : written (bytes_of v.view) (write_of y) ≡ y.bytes.bytes
  pub turns : y.turns_left ≡ decrement (turns_left v.view.config.lease v.view.ends)
  pub last : is_last_turn v.view.config.lease v.view.ends ≡ true → y.closed ≡ true
  pub allowed : allows (bytes_of v.view) y.bytes.bytes

-- the line may be handed over at the entry of this node: first at a holder's own entry, when its turn is over
abbrev pub MayHandOff : (allows : List ℕ → List ℕ → Type 0) → LinkGhost → Payload → ℕ → Type 0
MayHandOff allows v y at = ((v.own.seat.point ≡ Holding) × (at ≡ v.view.node) × TurnIsOver allows v y) ⊎ ((v.own.seat.point ≡ Leaving at) × (y ≡ v.own.line))

-- the node still has the line, and its release goes on at this point
pub record KeepsPayload (v w : LinkGhost) (y : Payload) (point : Point) : Type 0 where
  pub point_is : w.own.seat.point ≡ point
  pub state : w.view.state ≡ v.view.state
  pub count : w.view.count ≡ v.view.count
  pub ends : w.view.ends ≡ v.view.ends
  pub passed : w.own.passed ≡ v.own.passed
  pub line_is : w.own.line ≡ y

-- a release has passed so few nodes that another one is left
abbrev pub HasUnpassedNode : LinkGhost → Type 0
HasUnpassedNode w = length w.own.passed + 2 ≤ w.view.config.nodes

-- the request at its turn has ended, and the node knows it
pub record Ended (v w : LinkGhost) (y : Payload) : Type 0 where
  pub known : length w.view.ends ≤ length w.view.order
  pub ends : w.view.ends ≡ v.view.ends ++ next_end v y ∷ []
  pub count : w.view.count ≡ v.view.count
  pub own_turn : v.own.passed ≡ [] → At w.view.order (length v.view.ends) (own w.view)

-- the point of a node after a call that left its port in this state
abbrev pub point_by : PortState → Point
point_by port_state.Left = Left
point_by port_state.Shut = Shut
point_by _ = Idle

-- the point of a node while it still has passed nodes to free
abbrev pub after_release : PortState → List ℕ → Point
after_release state [] = point_by state
after_release state (p ∷ ps) = Freeing

-- the node has handed over the line: it is at home, or granted to the next request, which is not withdrawn
pub record IsHandedOver (v w : LinkGhost) (y : Payload) : Type 0 where
  pub point : w.own.seat.point ≡ after_release (state_after y.closed) v.own.passed
  pub state : w.view.state ≡ state_after y.closed
  pub passed : w.own.passed ≡ v.own.passed
  pub unmarked : (r : Request) → turn_of w.view.order w.view.ends ≡ Some r → Lacks w.view.marked r
  pub clear : v.own.passed ≡ [] → Has w.view.clear (own w.view)

-- the state of a node that has left the line for a late linker, in its own entry or in that of a node that it has
-- passed
abbrev pub left_in : List ℕ → Bool → PortState
left_in [] closed = port_state.Left
left_in (p ∷ ps) closed = state_after closed

-- the node has left the line for a late linker
pub record IsLeftForLinker (v w : LinkGhost) (y : Payload) : Type 0 where
  pub point : w.own.seat.point ≡ after_release (left_in v.own.passed y.closed) v.own.passed
  pub state : w.view.state ≡ left_in v.own.passed y.closed
  pub passed : w.own.passed ≡ v.own.passed
  pub unmarked : (r : Request) → turn_of w.view.order w.view.ends ≡ Some r → Lacks w.view.marked r
  pub short : SuccessorUnlinked w.view

-- the next request is withdrawn: the node still has the line, and passes that request
pub record Passes (v w : LinkGhost) (next : ℕ) : Type 0 where
  pub point : w.own.seat.point ≡ Leaving next
  pub state : w.view.state ≡ state_after v.own.line.closed
  pub passed : w.own.passed ≡ v.own.passed ++ length w.view.ends ∷ []
  pub line_is : w.own.line ≡ v.own.line
  pub request : Request
  pub at : At w.view.order (length w.view.ends) request
  pub node : request.node ≡ next
  pub others : AreOfOthers w.view.node w.view.order w.own.passed
  pub few : length w.own.passed + 1 ≤ w.view.config.nodes

-- The node of the first passed request, at the place p, is freed, and that request is clear unless the line was left
-- there. ps are the passed requests that are left.
pub record Frees (v : LinkGhost) (p : ℕ) (ps : List ℕ) (r : Request) (w : LinkGhost) : Type 0 where
  pub point : w.own.seat.point ≡ after_release w.view.state ps
  pub passed : w.own.passed ≡ ps
  pub state : w.view.state ≡ v.view.state
  pub count : w.view.count ≡ v.view.count
  pub order : w.view.order ≡ v.view.order
  pub ends : w.view.ends ≡ v.view.ends
  pub marked : w.view.marked ≡ v.view.marked
  pub joined : w.view.joined ≡ v.view.joined
  pub freed : Has w.view.freed r
  pub clear : Has w.view.clear r ⊎ ((p + 1 ≡ length w.view.ends) × SuccessorUnlinked w.view)
  pub own_clear : ps ≡ [] → Has w.view.clear (own w.view)

module _ (allows : List ℕ → List ℕ → Type 0) where
  abbrev pub readied : Step Payload → SeatContents → ℕ → SeatContents → Type 0
  readied st m n m' = (m'.1 ≡ m.1) × Advances allows m m' 1 × IsReady (single m.0) (single m'.0)

  abbrev pub prepended : Step Payload → SeatContents → ℕ → SeatContents → Type 0
  prepended st m n m' = Advances allows m m' 1 × Asks (single m.0).view (single m'.0).view
      × (n ≡ 0 → IsJoined (single m'.0).view × ((y : Payload) × (m'.1 ≡ (0, y) ∷ m.1) × IsAtTurn (single m'.0) y))
      × (n ≢ 0 → (m'.1 ≡ m.1) × MustLinkTo n (single m'.0))

  abbrev pub linked : Step Payload → SeatContents → ℕ → SeatContents → Type 0
  linked st m n m' = Advances allows m m' 1 × Links (single m.0).view (single m'.0).view
      × (is_done n ≡ true → (y : Payload) × (m'.1 ≡ (0, y) ∷ m.1) × IsAtTurn (single m'.0) y)
      × (is_done n ≡ false → (m'.1 ≡ m.1) × IsStillQueued (single m'.0))

  abbrev pub loaded : Step Payload → SeatContents → ℕ → SeatContents → Type 0
  loaded st m n m' = Advances allows m m' 1 × ((single m'.0).view.count ≡ (single m.0).view.count)
      × (is_granted n ≡ true → (y : Payload) × (m'.1 ≡ (0, y) ∷ m.1) × IsAtTurn (single m'.0) y)
      × (is_granted n ≡ false → (m'.1 ≡ m.1) × IsStillQueued (single m'.0))

  abbrev pub rolled : Step Payload → SeatContents → ℕ → SeatContents → Type 0
  rolled st m n m' = Advances allows m m' 1 × ((single m'.0).view.count ≡ (single m.0).view.count)
      × (is_granted n ≡ true → (y : Payload) × (m'.1 ≡ (0, y) ∷ m.1) × IsAtTurn (single m'.0) y)
      × (is_granted n ≡ false → (m'.1 ≡ m.1) × IsRolled (single m'.0))

  abbrev pub loaded_last : Step Payload → SeatContents → ℕ → SeatContents → Type 0
  loaded_last st m n m' = (m'.1 ≡ m.1) × Advances allows m m' 1 × TellsIfClear (single m.0) (is_free (single m.0).own.seat.point n) (single m'.0)

  abbrev pub homed : Step Payload → SeatContents → ℕ → SeatContents → Type 0
  homed st m n m' = Advances allows m m' 1 × ((y : Payload) → m.1 ≡ (0, y) ∷ []
      → (n ≡ st.first → (m'.1 ≡ []) × Ended (single m.0) (single m'.0) y × IsHandedOver (single m.0) (single m'.0) y × (wake_word (single m'.0).view ≡ home_at))
      × (n ≢ st.first → (m'.1 ≡ m.1) × KeepsPayload (single m.0) (single m'.0) y (Marking st.first) × HasUnpassedNode (single m'.0)))

  abbrev pub marked : Step Payload → SeatContents → ℕ → SeatContents → Type 0
  marked st m n m' = Advances allows m m' 1 × ((y : Payload) → m.1 ≡ (0, y) ∷ []
      → (link_of n ≡ 0 → (m'.1 ≡ []) × Ended (single m.0) (single m'.0) y × IsLeftForLinker (single m.0) (single m'.0) y)
      × (link_of n ≢ 0 → (m'.1 ≡ m.1) × KeepsPayload (single m.0) (single m'.0) y (Granting (link_of n)) × IsWithin (single m'.0).view.config.nodes (link_of n)))

  abbrev pub granted : Step Payload → SeatContents → ℕ → SeatContents → Type 0
  granted st m n m' = Advances allows m m' 1 × ((y : Payload) → m.1 ≡ (0, y) ∷ [] → Ended (single m.0) (single m'.0) y
      × (is_rolled n ≡ false → (m'.1 ≡ []) × IsHandedOver (single m.0) (single m'.0) y × ((next : ℕ) → (single m.0).own.seat.point ≡ Granting next → wake_word (single m'.0).view ≡ entry_at next))
      × (is_rolled n ≡ true → (m'.1 ≡ m.1) × ((next : ℕ) → (single m.0).own.seat.point ≡ Granting next → Passes (single m.0) (single m'.0) next)))

  abbrev pub freed : Step Payload → SeatContents → ℕ → SeatContents → Type 0
  freed st m n m' = (m'.1 ≡ m.1) × Advances allows m m' 1
      × ((p : ℕ) (ps : List ℕ) (r : Request) → (single m.0).own.passed ≡ p ∷ ps → At (single m.0).view.order p r → Frees (single m.0) p ps r (single m'.0))
