-- An abstract model of a plain line, and the condition under which the model agrees with a state of the queue machine.
use Rattle.std.specs.Prelude.{◌≡◌, ℕ, ◌<◌, ◌≤◌, ◌==◌, Bool, true, false, ◌&&◌, if◌then◌else◌, List, [], ◌∷◌, map, length, Option, Some, None, slice_get, find}
use Rattle.std.specs.Option.{option_map_or}
use Rattle.std.specs.List.{list_any}
use Rattle.qolb_model.specs.declared.answer.PortState.{PortState}
use Rattle.qolb_model.specs.declared.answer.PortState.TheVariants.{Idle, Queued, Holding, Rolled, Shut}
use Rattle.qolb_model.specs.declared.request.Request.{Request}
use Rattle.qolb_model.specs.declared.waiter.Waiter.{Waiter}
use Rattle.qolb_model.specs.declared.write.Write.{Write}
use Rattle.qolb_model.specs.Requests.{Has, Lacks, has, count_of, last_of}
use Rattle.qolb_model.specs.Ends.{is_closed, bytes_after, written}
use Rattle.qolb_model.specs.Leases.{turns_left}
use Rattle.qolb_model.specs.Opening.{MayOpen}
use Rattle.qolb_model.specs.Histories.{IsLegal, turn_of, ended_of, open_of}
use Rattle.qolb_model.specs.OneOwner.{OwnerState, new_turn}

-- the number of nodes, the nodes that wait or hold with the oldest first, whether the oldest holds, whether the line is
-- closed, the number of turns left, and the bytes with the mask of what the holder has written
pub record PlainView : Type 0 where
  pub nodes : ℕ
  pub waiting : List Waiter
  pub granted : Bool
  pub closed : Bool
  pub left : Option ℕ
  pub turn : Write

abbrev pub is_at : ℕ → Waiter → Bool
is_at node w = w.node == node

-- the node is the oldest of those that wait
abbrev pub is_oldest : PlainView → ℕ → Bool
is_oldest line node = option_map_or (is_at node) (slice_get line.waiting 0) false

-- the state of a node, by its entry if it has one
abbrev pub waiter_state : PlainView → ℕ → Option Waiter → PortState
waiter_state line node None = if line.closed then Shut else Idle
waiter_state line node (Some w) = if w.withdrawn then Rolled else (if line.granted && is_oldest line node then Holding else Queued)

abbrev pub node_state : PlainView → ℕ → PortState
node_state line node = waiter_state line node (find (is_at node) line.waiting)

-- What holds of every state that one owner's calls reach. The line was lawfully opened, and its history is legal. All
-- requests that have ended are clear, each open request is its node's last, and no withdrawn request is at its turn.
-- What a turn has written lies over the bytes after all ends.
pub record IsReached (s : OwnerState) : Type 0 where
  pub may_open : MayOpen s.config
  pub line : length s.config.opening.bytes ≡ 64
  pub legal : IsLegal s.config.lease s.queue.order s.queue.ends
  pub cleared : s.queue.clear ≡ ended_of s.queue.order s.queue.ends
  pub nodes_known : (p : ℕ) (r : Request) → slice_get s.queue.order p ≡ Some r → (1 ≤ r.node) × (r.node ≤ s.config.nodes)
  pub last_open : (p : ℕ) (r : Request) → length s.queue.ends ≤ p → slice_get s.queue.order p ≡ Some r → r ≡ last_of r.node s.queue.order
  pub marks_known : (r : Request) → Has s.queue.marked r → r.number ≤ count_of r.node s.queue.order
  pub passed : (r : Request) → turn_of s.queue.order s.queue.ends ≡ Some r → Lacks s.queue.marked r
  pub held : s.granted ≡ true → (length s.queue.ends < length s.queue.order) × (is_closed s.queue.ends ≡ false)
  pub resting : s.granted ≡ false → s.turn ≡ new_turn s.config.opening.bytes s.queue.ends
  pub turn : written (bytes_after s.config.opening.bytes s.queue.ends) s.turn ≡ s.turn.bytes.bytes

-- the entry of an open request
abbrev pub waiter_of : List Request → Request → Waiter
waiter_of marked r = record { node = r.node; withdrawn = has marked r }

-- the line agrees with a state about the nodes, the open requests and their marks, the holder, closing, the turns left,
-- and the turn's write
pub record Agrees (line : PlainView) (s : OwnerState) : Type 0 where
  pub nodes : line.nodes ≡ s.config.nodes
  pub waiting : line.waiting ≡ map (waiter_of s.queue.marked) (open_of s.queue.order s.queue.ends)
  pub granted : line.granted ≡ s.granted
  pub closed : line.closed ≡ is_closed s.queue.ends
  pub left : line.left ≡ turns_left s.config.lease s.queue.ends
  pub turn : line.turn ≡ s.turn
  pub reached : IsReached s

-- the waiting nodes are distinct, and from 1 to `nodes`
abbrev pub AreWaiting : ℕ → List Waiter → Type 0
AreWaiting nodes [] = Unit {0}
AreWaiting nodes (w ∷ ws) = (1 ≤ w.node) × (w.node ≤ nodes) × (list_any (is_at w.node) ws ≡ false) × AreWaiting nodes ws
