-- What a port learns from a complete release of the line.
use Rattle.std.specs.Prelude.{◌≡◌, ◌≢◌, ◌<◌, ◌≤◌, ℕ, suc, List, ◌++◌, length, replicate, Option, Some, None}
use Rattle.qolb_model.specs.declared.answer.PortState.{PortState}
use Rattle.qolb_model.specs.declared.answer.PortState.TheVariants as port_state
use Rattle.qolb_model.specs.declared.request.Request.{Request}
use Rattle.qolb_model.specs.declared.end.End.TheVariants.{Gone}
use Rattle.qolb_model.specs.Requests.{Has, Lacks, AreOfDifferentNodes}
use Rattle.qolb_model.specs.PortStates.{state_after}
use Rattle.qolb_model.specs.Leases.{turns_left}
use Rattle.qolb_model.specs.Ends.{is_closed}
use Rattle.qolb_model.specs.Views.{own, bytes_of}
use Rattle.qolb_model.specs.Releasing.{AfterRelease, EndsTurn}
use Rattle.qolb_model.specs.declared.view.View.{View}
use Rattle.line_generic.specs.Steps.{own_end}
use Rattle.line_cells.specs.declared.local.Point.TheVariants.{Idle, Rolled}
use Rattle.line_generic.specs.declared.table.Payload.{Payload}
use Rattle.line_cells.specs.Layout.{IsWithin}
use Rattle.line_cells.specs.Array.{ArrayGhost, At}

-- the number of atomic steps by which a node learns whether it may make a request, and resets its word
abbrev pub steps_to_reset : Option ℕ → ℕ
steps_to_reset (Some steps) = steps
steps_to_reset None = 1

-- the node may make a request, after that many atomic steps; or its last request was withdrawn and is not clear, so it
-- may not
abbrev pub TriesReset : PortState → ArrayGhost → ArrayGhost → Option ℕ → Type 0
TriesReset state v w (Some steps) = (w.own.point ≡ Idle) × (w.view.count ≡ v.view.count) × (steps ≤ 2) × (state ≢ port_state.Rolled → steps ≡ 0) × (state ≡ port_state.Rolled → steps ≡ 2)
TriesReset state v w None = (state ≡ port_state.Rolled) × (w.own.point ≡ Rolled) × (w.view.state ≡ v.view.state) × (w.view.count ≡ v.view.count) × Lacks w.view.clear (own w.view)

-- the payload is the line after the known ends
pub record MatchesEnds (v : ArrayGhost) (y : Payload) : Type 0 where
  pub bytes : bytes_of v.view ≡ y.bytes.bytes
  pub closed : is_closed v.view.ends ≡ y.closed
  pub turns : turns_left v.view.config.lease v.view.ends ≡ y.turns_left

-- the release of the line y is over
pub record ReleasesLine (v : ArrayGhost) (y : Payload) (w : ArrayGhost) : Type 0 where
  pub point : w.own.point ≡ Idle
  pub state : w.view.state ≡ state_after y.closed
  pub ends_turn : EndsTurn v.view (own_end (is_closed v.view.ends) y) (state_after y.closed) w.view

-- A release is over. It had passed the request at its turn and none before. It passed requests of different nodes, none
-- of them its own.
pub record FinishesWalk (v w : ArrayGhost) : Type 0 where
  pub point : w.own.point ≡ Idle
  pub state : w.view.state ≡ v.view.state
  pub count : w.view.count ≡ v.view.count
  pub passed : ℕ
  pub ends : w.view.ends ≡ v.view.ends ++ replicate (suc passed) Gone
  pub others : (p : ℕ) (r : Request) → length v.view.ends ≤ p → p < length w.view.ends → At w.view.order p r → r.node ≢ v.view.node
  pub once : AreOfDifferentNodes w.view.order (length v.view.ends) (length w.view.ends)
  pub releases : AfterRelease (length v.view.ends) v.view.state w.view

-- each of these nodes, all of the line, made the request at the same index of `places`
pub record AreNodesAt (v : View) (places nodes : List ℕ) : Type 0 where
  pub each : (k p n : ℕ) → At places k p → At nodes k n → (r : Request) × At v.order p r × (r.node ≡ n) × IsWithin v.config.nodes n

-- all requests that the node had passed are freed and clear, and so is its own; nothing else has changed
pub record FreesAll (v w : ArrayGhost) : Type 0 where
  pub point : w.own.point ≡ Idle
  pub state : w.view.state ≡ v.view.state
  pub count : w.view.count ≡ v.view.count
  pub order : w.view.order ≡ v.view.order
  pub ends : w.view.ends ≡ v.view.ends
  pub marked : w.view.marked ≡ v.view.marked
  pub freed : (k p : ℕ) (r : Request) → At v.own.passed k p → At v.view.order p r → Has w.view.freed r
  pub clear : (k p : ℕ) (r : Request) → At v.own.passed k p → At v.view.order p r → Has w.view.clear r
  pub own_clear : Has w.view.clear (own w.view)
