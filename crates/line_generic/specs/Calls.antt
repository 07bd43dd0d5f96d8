-- What each call of a queue algorithm requires of the calling node's seat (the node's access to the line's table), and
-- what the call ensures for this seat. There is one record for each call. The parameter `t` of a record is the table. A
-- record also has a parameter `q`, the phases in which a node can be between two calls, or a parameter `d`, the whole
-- ghost state of the queue algorithm.
use Rattle.std.specs.Prelude.{◌≡◌, ◌≢◌, ℕ, ◌+◌, ◌<◌, ◌≤◌, List, length, Bool, Some, IsTrue}
use Rattle.atomic_table.specs.declared.shared.Shared.{Shared}
use Rattle.qolb_model.specs.declared.answer.PortState.{PortState}
use Rattle.qolb_model.specs.declared.answer.PortState.TheVariants as port_state
use Rattle.qolb_model.specs.PortStates as states
use Rattle.line_generic.specs.declared.discipline.DisciplineSpec as spec
use Rattle.line_generic.specs.declared.discipline.Enqueued.TheVariants as enqueued
use Rattle.line_generic.specs.declared.discipline.EnqueueResult.{EnqueueResult}
use Rattle.line_generic.specs.declared.discipline.Rested.{Rested}
use Rattle.line_generic.specs.declared.discipline.Released.{Released}
use Rattle.line_generic.specs.declared.table.LocalCopy.{LocalCopy}
use Rattle.line_generic.specs.declared.table.NodeGhost.{NodeGhost}
use Rattle.line_generic.specs.declared.table.Payload.{Payload}
use Rattle.line_generic.specs.declared.table.TableKey.{TableKey}
use Rattle.line_generic.specs.NodeGhosts.{LineSeat}
use Rattle.line_generic.specs.PortPhases.{PortPhases}
use Rattle.line_generic.specs.Ports.{looks_at_rest_in, IsForwarded}
use Rattle.line_generic.specs.Answers.{IsSeatOfNode, HasNodes, CountsRequest, LooksAtRest, MakesRequest, PutsRequest, PollsWord, Rolls, LinksOn, HasStoredClosed, HasStored, HandsOver}
use Rattle.line_generic.specs.Steps.{IsOfOneNode, ghost_of, IsInState, SeatAdvances}

-- the table of a line, whose nodes have this ghost state
abbrev pub LineTable : Type 0 → Type 0 → Type 0
LineTable O P = Shared Payload (List (NodeGhost O)) TableKey P

module _ {O P : Type 0} (q : PortPhases O) (cell_mask_for : ℕ → ℕ) (t : LineTable O P) where
  -- what `take` requires: the line is granted to the node, in the slots of its seat
  pub record MayTake (cell_mask token : ℕ) (s : LineSeat O) : Type 0 where
    pub table : s.table_id ≡ t.table_id
    pub mask_fits : cell_mask ≡ cell_mask_for t.key.config.nodes
    pub at_turn : (y : Payload) × q.slots_at_grant t.key.config.nodes token y s.me.1

  -- what `put` requires: the holder has the slots of its turn, and at least one turn left
  pub record MayPut (cell_mask token : ℕ) (s : LineSeat O) (turn : LocalCopy) : Type 0 where
    pub table : s.table_id ≡ t.table_id
    pub mask_fits : cell_mask ≡ cell_mask_for t.key.config.nodes
    pub kept : q.slots_in_turn t.key.config.nodes token turn.turns_left s.me.1
    pub left : turn.turns_left ≢ Some 0

module _ {O P : Type 0} (q : PortPhases O) (word_count : ℕ → ℕ) (t : LineTable O P) where
  -- what `look_at_rest` and `prepend` require: the node may make a request
  pub record IsNodeAtRest (node : ℕ) (state : PortState) (s : LineSeat O) : Type 0 where
    pub seat : IsSeatOfNode word_count t.key.config.nodes t.table_id q.initial node s
    pub in_state : (token : ℕ) × IsInState q state token s
    pub may_ask : IsTrue (states.may_ask state)

  -- what `link` requires: the node still has to link its request to its predecessor's
  pub record IsSuccessor (node token : ℕ) (s : LineSeat O) : Type 0 where
    pub seat : IsSeatOfNode word_count t.key.config.nodes t.table_id q.initial node s
    pub in_state : IsInState q port_state.Linking token s

module _ {O P : Type 0} (q : PortPhases O) (word_count cell_mask_for : ℕ → ℕ) (t : LineTable O P) where
  -- what `ask` requires: the node may make a request, and the mask is the line's
  pub record IsRequester (cell_mask node : ℕ) (state : PortState) (s : LineSeat O) : Type 0 where
    pub seat : IsSeatOfNode word_count t.key.config.nodes t.table_id q.initial node s
    pub mask_fits : cell_mask ≡ cell_mask_for t.key.config.nodes
    pub in_state : (token : ℕ) × IsInState q state token s
    pub may_ask : IsTrue (states.may_ask state)

  -- what `look` and `roll` require: the node waits with this token
  pub record IsWaiter (cell_mask node token : ℕ) (s : LineSeat O) : Type 0 where
    pub seat : IsSeatOfNode word_count t.key.config.nodes t.table_id q.initial node s
    pub mask_fits : cell_mask ≡ cell_mask_for t.key.config.nodes
    pub in_state : IsInState q port_state.Queued token s

  -- what `release` requires: the node has stored the line for its successor, closed or not
  pub record IsReleaser (allows : List ℕ → List ℕ → Type 0) (cell_mask node token : ℕ) (closed : Bool) (s : LineSeat O) : Type 0 where
    pub seat : IsSeatOfNode word_count t.key.config.nodes t.table_id q.initial node s
    pub mask_fits : cell_mask ≡ cell_mask_for t.key.config.nodes
    pub of_one_node : IsOfOneNode q.initial s.me
    pub nodes : HasNodes (ghost_of q.initial s).view
    pub line : HasStored q t.key.config.nodes token allows closed s

  -- the line was granted to the node closed, and is stored for its successor
  pub record IsForwarder (cell_mask node token : ℕ) (s : LineSeat O) : Type 0 where
    pub seat : IsSeatOfNode word_count t.key.config.nodes t.table_id q.initial node s
    pub mask_fits : cell_mask ≡ cell_mask_for t.key.config.nodes
    pub of_one_node : IsOfOneNode q.initial s.me
    pub nodes : HasNodes (ghost_of q.initial s).view
    pub at_turn : HasStoredClosed q t.key.config.nodes token s

module _ {D O P : Type 0} (d : spec.Ghosts D O) (word_count : ℕ → ℕ) (t : LineTable O P) where
  -- what `release` ensures: the node's turn is over, and its caller must unpark the next holder
  pub record HasReleased (allows : List ℕ → List ℕ → Type 0) (token : ℕ) (old new : LineSeat O) (released : Released) : Type 0 where
    pub advances : SeatAdvances allows d.phases.initial old new released.steps
    pub hands_over : HandsOver d.phases t.key.config.nodes token old new released.state
    pub steps : d.release_steps (length (ghost_of d.phases.initial old).view.ends) (length (ghost_of d.phases.initial new).view.ends) released.steps
    pub unpark : released.unpark.word < word_count t.key.config.nodes
    pub names_wake_word : released.unpark.word ≡ d.wake_word (ghost_of d.phases.initial new).view
    pub bound : released.steps + 1 ≤ d.max_steps (ghost_of d.phases.initial old).view.config.nodes

  -- what forwarding a closed line ensures: the node was told that the line is closed, and its caller must unpark the
  -- next holder
  pub record HasForwarded (allows : List ℕ → List ℕ → Type 0) (old new : LineSeat O) (released : Released) : Type 0 where
    pub advances : SeatAdvances allows d.phases.initial old new released.steps
    pub count : (ghost_of d.phases.initial new).view.count ≡ (ghost_of d.phases.initial old).view.count
    pub told : IsForwarded d.phases new released.state
    pub not_held : released.state ≢ port_state.Holding
    pub unpark : released.unpark.word < word_count t.key.config.nodes
    pub names_wake_word : released.unpark.word ≡ d.wake_word (ghost_of d.phases.initial new).view
    pub bound : released.steps + 1 ≤ d.max_steps (ghost_of d.phases.initial old).view.config.nodes

module _ {D O P : Type 0} (d : spec.Ghosts D O) (t : LineTable O P) (allows : List ℕ → List ℕ → Type 0) where
  -- what `ask` ensures: the node made a request, unless it is busy
  pub record HasRequested (state : PortState) (old new : LineSeat O) (made : EnqueueResult) : Type 0 where
    pub advances : SeatAdvances allows d.phases.initial old new made.steps
    pub request : MakesRequest d.phases t.key.config.nodes made.token state old new made.answer
    pub steps : CountsRequest d.enqueue_steps state made.answer made.steps

module _ {O P : Type 0} (q : PortPhases O) (t : LineTable O P) (allows : List ℕ → List ℕ → Type 0) where
  -- what `look` ensures: the request is at its turn, or the node waits
  pub record HasLooked (token : ℕ) (old new : LineSeat O) (is_at_turn : Bool) : Type 0 where
    pub advances : SeatAdvances allows q.initial old new 1
    pub polls : PollsWord q t.key.config.nodes token old new is_at_turn

  -- what `roll` ensures: the request is at its turn, or withdrawn
  pub record HasRolled (token : ℕ) (old new : LineSeat O) (is_at_turn : Bool) : Type 0 where
    pub advances : SeatAdvances allows q.initial old new 1
    pub rolls : Rolls q t.key.config.nodes token old new is_at_turn

  -- what `prepend` ensures: the node made a request, unless it is busy
  pub record HasPrepended (prepend_steps : PortState → ℕ) (state : PortState) (old new : LineSeat O) (made : EnqueueResult) : Type 0 where
    pub advances : SeatAdvances allows q.initial old new made.steps
    pub request : PutsRequest q t.key.config.nodes made.token state old new made.answer
    pub steps_if_busy : made.answer ≡ enqueued.Busy → made.steps ≡ 1
    pub steps : made.answer ≢ enqueued.Busy → made.steps ≡ prepend_steps state
    pub bound : made.steps ≤ 3

  -- what `link` ensures: the request is linked to its predecessor's
  pub record HasLinked (token : ℕ) (old new : LineSeat O) (is_at_turn : Bool) : Type 0 where
    pub advances : SeatAdvances allows q.initial old new 1
    pub links : LinksOn q t.key.config.nodes token old new is_at_turn

-- what `look_at_rest` ensures: the last request is clear, or the node is busy
pub record HasLookedAtRest {O : Type 0} (q : PortPhases O) (allows : List ℕ → List ℕ → Type 0) (state : PortState) (old new : LineSeat O) (looked : Rested) : Type 0 where
  pub advances : SeatAdvances allows q.initial old new looked.steps
  pub polls : LooksAtRest q state old new looked.state looked.clear
  pub steps : looks_at_rest_in state looked.steps
