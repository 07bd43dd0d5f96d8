-- A plain line (a line with one owner), together with a record of the open requests and of the state of each node. The
-- definitions in this file were made for this project; none is taken from the literature.
use Rattle.std.specs.Prelude.{◌≡◌, ◌≢◌, ◌<◌, ◌+◌, ◌==◌, ◌⊎◌, length, ℕ, Bool, true, false, not, if◌then◌else◌, List, [], ◌∷◌, Option, Some, None}
use Rattle.qolb_model.specs.declared.answer.PortState.{PortState}
use Rattle.qolb_model.specs.declared.answer.PortState.TheVariants as port
use Rattle.qolb_model.specs.declared.answer.Enq.TheVariants as enq
use Rattle.qolb_model.specs.Plain.{PlainView, node_state, Agrees}
use Rattle.qolb_model.specs.OneOwner.{OwnerState}
use Rattle.qolb_script.specs.declared.reply_text.Said.{Said}
use Rattle.qolb_script.specs.declared.reply_text.Said.TheVariants as said
use Rattle.std.specs.List.{list_any, slice_index_or}
use Rattle.qolb_draw.specs.LineRuns.{waiting_nodes}

-- a command with this answer has made a request
abbrev pub has_asked : Said → Bool
has_asked (said.Enq enq.Granted) = true
has_asked (said.Enq enq.Queued) = true
has_asked (said.Enq enq.Closed) = true
has_asked what = false

-- a node in this state has a request that has not ended yet
abbrev pub is_open : PortState → Bool
is_open port.Idle = false
is_open port.Linking = true
is_open port.Queued = true
is_open port.Holding = true
is_open port.Left = false
is_open port.Rolled = true
is_open port.Shut = false

-- the list without the nodes before the first one that has an open request
abbrev pub after_ended : PlainView → List ℕ → List ℕ
after_ended line [] = []
after_ended line (n ∷ rest) = if is_open (node_state line n) then n ∷ rest else after_ended line rest

-- the state of this node, or `None` if there is no node or the node has an open request
abbrev pub state_ended : PlainView → Option ℕ → Option PortState
state_ended line None = None
state_ended line (Some n) = if is_open (node_state line n) then None else Some (node_state line n)

-- the line agrees with a state of a line with one owner, and `waiting` are the nodes with open requests in that state
pub record Follows (line : PlainView) (waiting : List ℕ) (s : OwnerState) : Type 0 where
  pub agrees : Agrees line s
  pub waiting_are : waiting ≡ waiting_nodes s

-- these are the states of the line's nodes, indexed by the nodes' numbers
abbrev pub AreStates : PlainView → List PortState → Type 0
AreStates line states = (n : ℕ) → n < length states → slice_index_or states n port.Idle ≡ node_state line n

-- the recorded states, and whether the line is closed, are as in the line itself
pub record HasStates (line : PlainView) (states : List PortState) (closed : Bool) : Type 0 where
  pub size : length states ≡ line.nodes + 1
  pub are : AreStates line states
  pub closed_is : closed ≡ line.closed

-- the node is one of these
abbrev pub is_among : ℕ → List ℕ → Bool
is_among n nodes = list_any (λ m. m == n) nodes

-- The nodes at the front of those that waited were passed. Each recorded state is now as in the line, or it was not
-- changed. If a node's state was not changed, the node is waiting now exactly if it waited before.
pub record ArePassed (line : PlainView) (waited waiting : List ℕ) (old new : List PortState) : Type 0 where
  pub size : length new ≡ length old
  pub states : (n : ℕ) → n < length old → (slice_index_or new n port.Idle ≡ node_state line n)
      ⊎ ((slice_index_or new n port.Idle ≡ slice_index_or old n port.Idle) × (is_among n waiting ≡ is_among n waited))

-- Each recorded state is now as in the line, or it was not changed. A state that was not changed belongs to another
-- node than this one, and `all` is false.
pub record AreLookedAt (line : PlainView) (node : ℕ) (all : Bool) (old new : List PortState) : Type 0 where
  pub size : length new ≡ length old
  pub states : (n : ℕ) → n < length old → (slice_index_or new n port.Idle ≡ node_state line n)
      ⊎ ((slice_index_or new n port.Idle ≡ slice_index_or old n port.Idle) × (n ≢ node) × (all ≡ false))

-- the recorded state of this node was set, if the record has a state for the node
pub record IsKept (node : ℕ) (state : PortState) (old new : List PortState) : Type 0 where
  pub size : length new ≡ length old
  pub states : (n : ℕ) → n < length old → slice_index_or new n port.Idle ≡ (if n == node then state else slice_index_or old n port.Idle)

-- a node in this state has no open request, and the line is closed
abbrev pub is_shut : PortState → Bool
is_shut port.Idle = false
is_shut port.Linking = false
is_shut port.Queued = false
is_shut port.Holding = false
is_shut port.Left = false
is_shut port.Rolled = false
is_shut port.Shut = true

-- exactly one of the two is true
abbrev pub differs : Bool → Bool → Bool
differs true b = not b
differs false b = b
