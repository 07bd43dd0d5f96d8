-- The state of a port: what the port knows about its line, and which bytes and slots of the line it has.
use Rattle.std.specs.Prelude.{◌≡◌, ◌≢◌, ◌⊎◌, ℕ, ◌+◌, ◌-◌, ◌≤◌, length, slice_get, Bool, false, List, [], Option, Some}
use Rattle.std.specs.List.{All}
use Rattle.atomic_table.specs.Seated.{TableId}
use Rattle.qolb_model.specs.declared.answer.PortState.{PortState}
use Rattle.qolb_model.specs.declared.answer.PortState.TheVariants as port_state
use Rattle.qolb_model.specs.declared.answer.Enq.{Enq}
use Rattle.qolb_model.specs.declared.answer.Enq.TheVariants as enq
use Rattle.qolb_model.specs.declared.answer.Poll.TheVariants as poll
use Rattle.qolb_model.specs.declared.answer.Out.TheVariants as out
use Rattle.qolb_model.specs.Counting.{Counters, Counts, Call, asks, polls, withdraws, looks_if_clear, releases}
use Rattle.qolb_model.specs.declared.config.LineConfig.{LineConfig}
use Rattle.qolb_model.specs.declared.view.View.{View}
use Rattle.qolb_model.specs.declared.write.Write.{Write}
use Rattle.qolb_model.specs.Ends.{is_closed, written}
use Rattle.qolb_model.specs.Views.{bytes_of}
use Rattle.qolb_model.specs.Sound.{IsSound}
use Rattle.qolb_model.specs.Leases.{turns_left}
use Rattle.qolb_model.specs.Steps.{decrement}
use Rattle.qolb_model.specs.Opening.{new_view, Opens}
use Rattle.qolb_model.specs.AtTurn.{IsGranted}
use Rattle.qolb_model.specs.Releasing.{IsTold}
use Rattle.line_generic.specs.declared.elsewhere.TheConstants.{NO_WORD}
use Rattle.line_generic.specs.declared.table.LocalCopy.{LocalCopy}
use Rattle.line_generic.specs.declared.table.Payload.{Payload}
use Rattle.line_generic.specs.declared.table.TableKey.{TableKey}
use Rattle.line_generic.specs.AtTurn.{Names}
use Rattle.line_generic.specs.NodeGhosts.{LineSeat, initial_nodes_from}
use Rattle.line_generic.specs.PortPhases.{PortPhases}
use Rattle.line_generic.specs.Steps.{IsOfOneNode, ghost_of, nodes_of, HasNoSlot, IsInState}

-- The model of a port: its table, its view, the holder's turn (bytes and mask), its counters, its token, and the word
-- of the next holder that it noted, if its line notes any.
pub record PortModel : Type 0 where
  pub table : TableId
  pub view : View
  pub turn : Write
  pub counters : Counters
  pub token : ℕ
  pub went_to : Option ℕ

-- the bytes and mask of a port's copy
abbrev pub write_in : LocalCopy → Write
write_in y = record { mask = record { 0 = y.mask.bits }; bytes = y.bytes }

abbrev pub port_model : {O : Type 0} → O → LineSeat O → LocalCopy → ℕ → ℕ → ℕ → Option ℕ → PortModel
port_model initial s y steps count token went_to = record {
  table = s.table_id;
  view = (ghost_of initial s).view;
  turn = write_in y;
  counters = record { steps = steps; total_steps = (ghost_of initial s).steps; poll_count = count };
  token = token;
  went_to = went_to;
}

-- a poll of a node at rest takes one step if its last request may be busy, and otherwise none
abbrev pub looks_at_rest_in : PortState → ℕ → Type 0
looks_at_rest_in state n = ((state ≡ port_state.Left) ⊎ (state ≡ port_state.Rolled) → n ≡ 1) × (state ≢ port_state.Left → state ≢ port_state.Rolled → n ≡ 0)

-- the number of atomic steps of a call, by the counts that its kind of line gives for requests and releases, and the
-- maximum
abbrev pub call_steps : (PortState → Enq → ℕ → Type 0) → (ℕ → ℕ → ℕ → Type 0) → ℕ → Call → View → View → ℕ → Type 0
call_steps enqueue_steps release_steps max_steps (asks answer) old new n = (answer ≢ enq.Closed → enqueue_steps old.state answer n) × (n ≤ max_steps + 3)
call_steps enqueue_steps release_steps max_steps (polls answer) old new n = (answer ≢ poll.Closed → n ≡ 1) × (n ≤ max_steps)
call_steps enqueue_steps release_steps max_steps (withdraws answer) old new n = (answer ≢ out.Closed → n ≡ 1) × (n ≤ max_steps)
call_steps enqueue_steps release_steps max_steps (looks_if_clear clear) old new n = looks_at_rest_in old.state n
call_steps enqueue_steps release_steps max_steps releases old new n = release_steps (length old.ends) (length new.ends) n × (n + 1 ≤ max_steps)

-- the counters of a port after a call
abbrev pub CountsCall : (PortState → Enq → ℕ → Type 0) → (ℕ → ℕ → ℕ → Type 0) → ℕ → Call → PortModel → PortModel → Type 0
CountsCall enqueue_steps release_steps max_steps call old new = Counts (call_steps enqueue_steps release_steps max_steps) (max_steps + 3) call old.view new.view old.counters new.counters

-- the turn's bytes are those of the earlier ends, changed under the mask
abbrev pub IsMerged : View → LocalCopy → Type 0
IsMerged v y = written (bytes_of v) (write_in y) ≡ y.bytes.bytes

-- the port has its own copy of the open line, which it may have changed, and the slots of its turn
pub record Holds {O : Type 0} (q : PortPhases O) (s : LineSeat O) (y : LocalCopy) (token : ℕ) : Type 0 where
  pub at : q.holds_open token (length (ghost_of q.initial s).view.ends) (ghost_of q.initial s).own
  pub kept : q.slots_in_turn (nodes_of q.initial s) token y.turns_left s.me.1
  pub merged : IsMerged (ghost_of q.initial s).view y
  pub is_open : is_closed (ghost_of q.initial s).view.ends ≡ false
  pub turns : y.turns_left ≡ turns_left (ghost_of q.initial s).view.config.lease (ghost_of q.initial s).view.ends
  pub some_left : y.turns_left ≢ Some 0

pub record IsPort {O : Type 0} (q : PortPhases O) (label node : ℕ) (s : LineSeat O) (y : LocalCopy) (token : ℕ) (state : PortState) : Type 0 where
  pub of_one_node : IsOfOneNode q.initial s.me
  pub rests_so : state ≢ port_state.Holding → q.in_state (nodes_of q.initial s) state token (ghost_of q.initial s).own × HasNoSlot s
  pub holds_so : state ≡ port_state.Holding → Holds q s y token
  pub shows_state : (ghost_of q.initial s).view.state ≡ state
  pub label_is : (ghost_of q.initial s).view.label ≡ label
  pub node_is : (ghost_of q.initial s).view.node ≡ node

-- the port accepted the line: it holds the open line, has written nothing, and took no further atomic step
abbrev pub IsHeld : {O : Type 0} → PortPhases O → LineSeat O → LocalCopy → ℕ → Type 0
IsHeld q s y token = Holds q s y token × ((ghost_of q.initial s).view.state ≡ port_state.Holding) × IsGranted (ghost_of q.initial s).view (write_in y)

-- the port accepted the closed line and forwarded it, and is left in this state
abbrev pub IsForwarded : {O : Type 0} → PortPhases O → LineSeat O → PortState → Type 0
IsForwarded q s state = ((token : ℕ) → IsInState q state token s) × IsTold (ghost_of q.initial s).view

-- the slot after a turn: the holder's bytes and mask, one turn fewer, and closed if this turn closed it
pub record IsStored (turn : LocalCopy) (closed : Bool) (y : Payload) : Type 0 where
  pub bytes : y.bytes ≡ turn.bytes
  pub mask : y.mask ≡ turn.mask
  pub turns : y.turns_left ≡ decrement turn.turns_left
  pub closed_is : y.closed ≡ closed

-- the port was opened with the line of this table
pub record BelongsTo (good : List ℕ → Type 0) (allows : List ℕ → List ℕ → Type 0) (key : TableKey) (table_id : TableId) (p : PortModel) : Type 0 where
  pub table_is : p.table ≡ table_id
  pub sound : IsSound good allows key.label key.config p.view

-- the seat has this node's ghost state alone, and belongs to the table of this line
pub record IsSeated {O : Type 0} (good : List ℕ → Type 0) (allows : List ℕ → List ℕ → Type 0) (key : TableKey) (table_id : TableId) (initial : O) (node : ℕ) (s : LineSeat O) : Type 0 where
  pub of_one_node : IsOfOneNode initial s.me
  pub node_is : (ghost_of initial s).view.node ≡ node
  pub table_is : s.table_id ≡ table_id
  pub sound : IsSound good allows key.label key.config (ghost_of initial s).view

-- the port has taken no step, was not polled, and notes no word
pub record IsUnused (p : PortModel) : Type 0 where
  pub counters : p.counters ≡ record { steps = 0; total_steps = 0; poll_count = 0 }
  pub note : Names NO_WORD p.went_to

-- these are the ports of the first n nodes, and none of them has made a request
pub record AreSplit (table_id : TableId) (key : TableKey) (n : ℕ) (ports : List PortModel) : Type 0 where
  pub many : length ports ≡ n
  pub each : (k : ℕ) (p : PortModel) → slice_get ports k ≡ Some p → (p.table ≡ table_id) × (p.view ≡ new_view key.label key.config (k + 1)) × IsUnused p

-- the ports of the first n nodes are made, and the seat `rest` has the ghost states of the other nodes
pub record HasSplit {O : Type 0} (initial : O) (table_id : TableId) (key : TableKey) (n : ℕ) (rest : LineSeat O) (ports : List PortModel) : Type 0 where
  pub table : rest.table_id ≡ table_id
  pub me : rest.me ≡ (initial_nodes_from initial key n (key.config.nodes - n), [])
  pub new_ports : AreSplit table_id key n ports

-- none of these ports has taken a step, was polled or notes a word
abbrev pub AreUnused : List PortModel → Type 0
AreUnused ports = All IsUnused ports

-- the results of opening a line: a new port for each node
abbrev pub IsOpened : (good : List ℕ → Type 0) (allows : List ℕ → List ℕ → Type 0) → TableKey → TableId → ℕ → LineConfig → List PortModel → Type 0
IsOpened good allows key table_id label config ports = Opens (λ (p : PortModel). p.view) (BelongsTo good allows key table_id) key.label key.config label config ports
