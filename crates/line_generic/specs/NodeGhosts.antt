-- The contents of a seat, which is a node's access to the line's table. A seat contains the ghost states of nodes, and
-- the slots that these nodes have.
use Rattle.std.specs.Prelude.{◌≡◌, map, ℕ, true, List, [], None}
use Rattle.atomic_table.specs.Table.{Me}
use Rattle.atomic_table.specs.declared.shared.Seat.{Seat}
use Rattle.qolb_model.specs.declared.answer.PortState.{PortState}
use Rattle.qolb_model.specs.declared.answer.PortState.TheVariants as port_state
use Rattle.qolb_model.specs.declared.view.View.{View}
use Rattle.qolb_model.specs.PortStates.{may_ask}
use Rattle.qolb_model.specs.Opening.{new_view}
use Rattle.qolb_model.specs.Entries.{each_from, AllAtRest}
use Rattle.line_generic.specs.declared.table.NodeGhost.{NodeGhost}
use Rattle.line_generic.specs.declared.table.TableKey.{TableKey}
use Rattle.line_generic.specs.declared.table.Payload.{Payload}

abbrev pub initial_node : {O : Type 0} → O → TableKey → ℕ → NodeGhost O
initial_node initial key n = record { view = new_view key.label key.config n; own = initial; steps = 0 }

-- the ghost states of the nodes n+1 .. n+k when a line is opened
abbrev pub initial_nodes_from : {O : Type 0} → O → TableKey → ℕ → ℕ → List (NodeGhost O)
initial_nodes_from initial key n k = each_from (initial_node initial key) n k

abbrev pub initial_nodes : {O : Type 0} → O → TableKey → List (NodeGhost O)
initial_nodes initial key = initial_nodes_from initial key 0 key.config.nodes

-- the number of the node
abbrev pub node_of : {O : Type 0} → NodeGhost O → ℕ
node_of e = e.view.node

abbrev pub no_view : View
no_view = record { label = 0; config = record { nodes = 0; opening = record { bytes = [] }; lease = None }; node = 0; count = 0; state = port_state.Idle; order = []; ends = []; clear = []; joined = []; marked = []; freed = [] }

-- the contents of a seat: the ghost states of its nodes, and its slots
abbrev pub SeatContents : Type 0 → Type 0
SeatContents O = Me Payload (List (NodeGhost O))

abbrev pub LineSeat : Type 0 → Type 0
LineSeat O = Seat Payload (List (NodeGhost O))

-- the node is at rest: in no call, neither waiting nor holding
abbrev pub AtRest : {O : Type 0} → (ℕ → PortState → ℕ → O → Type 0) → NodeGhost O → Type 0
AtRest in_state e = (state : PortState) × (token : ℕ) × (may_ask state ≡ true) × in_state e.view.config.nodes state token e.own

-- these ghost states are those of all nodes, each at rest
abbrev pub AllInState : {O : Type 0} → (ℕ → PortState → ℕ → O → Type 0) → ℕ → List (NodeGhost O) → Type 0
AllInState in_state nodes ghosts = AllAtRest node_of (AtRest in_state) nodes ghosts

-- the view of the node's port
abbrev pub view_of : {O : Type 0} → NodeGhost O → View
view_of e = e.view

-- the views of a seat's nodes
abbrev pub views_of : {O : Type 0} → List (NodeGhost O) → List View
views_of {O} ghosts = map (λ (e : NodeGhost O). e.view) ghosts
