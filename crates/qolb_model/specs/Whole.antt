-- Defines when ports know the whole history of their line, as a single owner would. All ports know the whole history if
-- they meet (exchange what they know) after each call. The definitions in this file were made for this project; none is
-- taken from the literature.
use Rattle.std.specs.Prelude.{◌≡◌, ◌⊎◌, ℕ, ◌+◌, ◌≤◌, List, length, Some, slice_get}
use Rattle.qolb_model.specs.declared.answer.PortState.{PortState}
use Rattle.qolb_model.specs.declared.answer.PortState.TheVariants.{Idle, Linking, Queued, Holding, Left, Rolled, Shut}
use Rattle.qolb_model.specs.declared.request.Request.{Request}
use Rattle.qolb_model.specs.declared.view.View.{View}
use Rattle.qolb_model.specs.declared.write.Write.{Write}
use Rattle.qolb_model.specs.Requests.{Has, has, count_of}
use Rattle.qolb_model.specs.Histories.{ended_of, open_of}
use Rattle.qolb_model.specs.OneOwner.{OwnerState, state_of}
use Rattle.qolb_model.specs.Plain.{IsReached}

-- the calls that a node's state allows, where a node that neither waits nor holds counts as idle
abbrev pub seen : PortState → PortState
seen Idle = Idle
seen Linking = Linking
seen Queued = Queued
seen Holding = Holding
seen Left = Idle
seen Rolled = Idle
seen Shut = Idle

-- a port's view, and what its holder has written in this turn
pub record ViewAndTurn : Type 0 where
  pub view : View
  pub turn : Write

-- The port knows the whole history of the state: all requests, each of them joined; all ends; that all ended requests
-- are clear; and which open requests are withdrawn. The node's phase is that of the state, and a holder's turn is that
-- of the state.
pub record KnowsWhole (s : OwnerState) (port : ViewAndTurn) : Type 0 where
  pub config : port.view.config ≡ s.config
  pub order : port.view.order ≡ s.queue.order
  pub ends : port.view.ends ≡ s.queue.ends
  pub clear : (r : Request) → Has (ended_of s.queue.order s.queue.ends) r → Has port.view.clear r
  pub joined : (r : Request) → Has s.queue.order r → Has port.view.joined r
  pub marked : (r : Request) → Has (open_of s.queue.order s.queue.ends) r → has port.view.marked r ≡ has s.queue.marked r
  pub count : port.view.count ≡ count_of port.view.node s.queue.order
  pub state : seen port.view.state ≡ seen (state_of s port.view.node)
  pub asked : (port.view.state ≡ Left) ⊎ (port.view.state ≡ Rolled) → 1 ≤ port.view.count
  pub turn : port.view.state ≡ Holding → port.turn ≡ s.turn

-- the ports of nodes 1, 2 and so on, all of which know the whole history of a state that one owner's calls can reach
pub record AreSynced (s : OwnerState) (ports : List ViewAndTurn) : Type 0 where
  pub reached : IsReached s
  pub count : length ports ≡ s.config.nodes
  pub node : (i : ℕ) (port : ViewAndTurn) → slice_get ports i ≡ Some port → port.view.node ≡ i + 1
  pub knows : (i : ℕ) (port : ViewAndTurn) → slice_get ports i ≡ Some port → KnowsWhole s port
