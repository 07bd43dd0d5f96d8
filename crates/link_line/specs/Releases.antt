-- What a port learns from a complete release of the line.
use Rattle.std.specs.Prelude.{◌≡◌, ◌≢◌, ◌⊎◌, ℕ, suc, ◌+◌, ◌<◌, ◌≤◌, List, ◌++◌, length, replicate, Option, Some, None}
use Rattle.qolb_model.specs.declared.answer.PortState.{PortState}
use Rattle.qolb_model.specs.declared.answer.PortState.TheVariants as port_state
use Rattle.qolb_model.specs.declared.request.Request.{Request}
use Rattle.qolb_model.specs.declared.view.View.{View}
use Rattle.qolb_model.specs.declared.end.End.TheVariants.{Gone}
use Rattle.qolb_model.specs.Requests.{Has, Lacks, AreOfDifferentNodes}
use Rattle.qolb_model.specs.PortStates.{state_after}
use Rattle.qolb_model.specs.Ends.{is_closed}
use Rattle.qolb_model.specs.Views.{own}
use Rattle.qolb_model.specs.Releasing.{AfterRelease, EndsTurn, SuccessorUnlinked}
use Rattle.link_core.specs.declared.point.Point.{Point}
use Rattle.link_core.specs.declared.point.Point.TheVariants.{Idle, Left, Rolled, Shut}
use Rattle.line_generic.specs.declared.table.Payload.{Payload}
use Rattle.line_generic.specs.Steps.{HasSlot, HasNoSlot, own_end}
use Rattle.link_line.specs.Ghost.{LinkGhost}
use Rattle.link_line.specs.BetweenCalls.{steps_to_ask, wake_word}
use Rattle.link_line.specs.declared.release.Handoff.{Handoff}
use Rattle.link_line.specs.declared.release.Handoff.TheVariants as handoff
use Rattle.link_line.specs.Links.{At}
use Rattle.link_line.specs.Layout.{IsWithin, home_at}
use Rattle.link_line.specs.Steps.{LinkSeat, ghost_of, point_by, IsReady, HasUnpassedNode, Ended, IsHandedOver, IsLeftForLinker, Passes}

-- the number of atomic steps by which a node learns whether it may make a request, and resets its entry
abbrev pub steps_to_reset : Option ℕ → ℕ
steps_to_reset (Some steps) = steps
steps_to_reset None = 1

-- the point of a node that may make a request, by its port's state
abbrev pub rest_of : PortState → Point
rest_of port_state.Left = Left
rest_of port_state.Rolled = Rolled
rest_of port_state.Shut = Shut
rest_of _ = Idle

-- the node may make a request, after all but the last of those steps; or its last request is not clear, so it may not
abbrev pub TriesReset : PortState → LinkGhost → LinkGhost → Option ℕ → Type 0
TriesReset state v w (Some steps) = IsReady v w × (steps ≤ 2) × (steps + 1 ≡ steps_to_ask state)
TriesReset state v w None = ((state ≡ port_state.Left) ⊎ (state ≡ port_state.Rolled)) × (w.own.seat.point ≡ v.own.seat.point) × (w.view.state ≡ v.view.state) × (w.view.count ≡ v.view.count) × Lacks w.view.clear (own w.view)

-- the word of the granted entry, or the home word if none was granted
abbrev pub granted_word : Handoff → ℕ
granted_word (handoff.HandedOver word behind) = word
granted_word handoff.Left = home_at
granted_word (handoff.Passed next) = home_at

-- unless the release passed the next request, the handoff names the word of the turn
abbrev pub NamesWakeWord : LinkGhost → Handoff → Type 0
NamesWakeWord w (handoff.HandedOver word behind) = word ≡ wake_word w.view
NamesWakeWord w handoff.Left = home_at ≡ wake_word w.view
NamesWakeWord w (handoff.Passed next) = Unit {0}

-- the node, with the line y
abbrev pub with_line : LinkGhost → Payload → LinkGhost
with_line v y = record v { own = record v.own { line = y } }

-- The result of a handoff of the line y at an entry, in n atomic steps. Either the line is at home or granted to the
-- next request, or it is left there for a late linker, or the next request is withdrawn and the node still has the
-- line. More than one step is taken only if another node is left.
abbrev pub HandsOff : LinkSeat → Payload → LinkSeat → ℕ → Handoff → Type 0
HandsOff s y t steps (handoff.HandedOver word behind) = HasNoSlot t × Ended (ghost_of s) (ghost_of t) y × IsHandedOver (ghost_of s) (ghost_of t) y × ((steps ≡ 1) ⊎ ((steps ≡ 3) × HasUnpassedNode (ghost_of s)))
HandsOff s y t steps handoff.Left = HasNoSlot t × Ended (ghost_of s) (ghost_of t) y × IsLeftForLinker (ghost_of s) (ghost_of t) y × (steps ≡ 2) × HasUnpassedNode (ghost_of s)
HandsOff s y t steps (handoff.Passed next) = HasSlot t y × Ended (ghost_of s) (ghost_of t) y × Passes (with_line (ghost_of s) y) (ghost_of t) next × (steps ≡ 3) × IsWithin (ghost_of t).view.config.nodes next

-- the release of the line y is over, and has left the port in this state
pub record ReleasesLine (v : LinkGhost) (y : Payload) (state : PortState) (w : LinkGhost) : Type 0 where
  pub point : w.own.seat.point ≡ point_by state
  pub state_is : w.view.state ≡ state
  pub ends_turn : EndsTurn v.view (own_end (is_closed v.view.ends) y) (state_after y.closed) w.view

-- A release is over. It had passed the request at its turn and none before. It passed requests of different nodes, none
-- of them its own.
pub record FinishesWalk (v w : LinkGhost) : Type 0 where
  pub point : w.own.seat.point ≡ point_by v.view.state
  pub state : w.view.state ≡ v.view.state
  pub count : w.view.count ≡ v.view.count
  pub passed : ℕ
  pub ends : w.view.ends ≡ v.view.ends ++ replicate (suc passed) Gone
  pub others : (p : ℕ) (r : Request) → length v.view.ends ≤ p → p < length w.view.ends → At w.view.order p r → r.node ≢ v.view.node
  pub once : AreOfDifferentNodes w.view.order (length v.view.ends) (length w.view.ends)
  pub releases : AfterRelease (length v.view.ends) v.view.state w.view

-- each of these nodes, all of the line, made the request at the same index of `places`
pub record AreNodesAt (v : View) (places nodes : List ℕ) : Type 0 where
  pub each : (k p n : ℕ) → At places k p → At nodes k n → (r : Request) × At v.order p r × (r.node ≡ n) × IsWithin v.config.nodes n

-- All requests that the node had passed are freed, and they are clear unless the line was left behind the last of them.
-- The node's own request is clear. Nothing else has changed.
pub record FreesAll (v w : LinkGhost) : Type 0 where
  pub point : w.own.seat.point ≡ point_by v.view.state
  pub state : w.view.state ≡ v.view.state
  pub count : w.view.count ≡ v.view.count
  pub order : w.view.order ≡ v.view.order
  pub ends : w.view.ends ≡ v.view.ends
  pub marked : w.view.marked ≡ v.view.marked
  pub joined : w.view.joined ≡ v.view.joined
  pub freed : (k p : ℕ) (r : Request) → At v.own.passed k p → At v.view.order p r → Has w.view.freed r
  pub clear : (k p : ℕ) (r : Request) → At v.own.passed k p → At v.view.order p r → Has w.view.clear r ⊎ ((p + 1 ≡ length w.view.ends) × SuccessorUnlinked w.view)
  pub own_clear : Has w.view.clear (own w.view)
