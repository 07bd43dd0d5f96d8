-- What a release requires of the seat of the node that holds the line, and what the release ensures for this seat. The
-- file states the same for the part of a release that skips withdrawn requests.
use Rattle.std.specs.Prelude.{◌≡◌, ◌≢◌, ℕ, ◌+◌, ◌*◌, ◌≤◌, List, [], ◌∷◌, length}
use Rattle.atomic_table.specs.Seated.{TableId}
use Rattle.qolb_model.specs.declared.config.TheConstants.{MAX_NODES}
use Rattle.qolb_model.specs.declared.request.Request.{Request}
use Rattle.qolb_model.specs.Requests.{AreOfOthers}
use Rattle.qolb_model.specs.PortStates.{state_after}
use Rattle.line_generic.specs.declared.table.Payload.{Payload}
use Rattle.line_generic.specs.Steps.{IsSeatOf, HasSlot, HasNoSlot}
use Rattle.line_cells.specs.declared.local.Point.TheVariants.{Holding, Passing}
use Rattle.line_cells.specs.Array.{At}
use Rattle.line_cells.specs.Releases.{MatchesEnds, ReleasesLine, FinishesWalk}
use Rattle.line_cells.specs.Steps.{ArraySeat, IsAt, ghost_of, SeatAdvances, IsNextPayload}
use Rattle.ring_line.specs.declared.release.Handoff.{Handoff}
use Rattle.ring_line.specs.Layout.{word_count, withdrawn_by}
use Rattle.ring_line.specs.Steps.{turn_cell}

-- the seat of a holder that has not passed any request, at this cell
pub record IsReleaser (allows : List ℕ → List ℕ → Type 0) (id : TableId) (cell : ℕ) (s : ArraySeat) : Type 0 where
  pub table : IsSeatOf word_count id s
  pub point : IsAt Holding s
  pub none_passed : (ghost_of s).own.passed ≡ []
  pub at_turn : cell ≡ turn_cell s
  pub nodes : 1 ≤ (ghost_of s).view.config.nodes
  pub payload : (y : Payload) × HasSlot s y × IsNextPayload allows (ghost_of s) y

-- what `release` ensures: the line is released, with this outcome
pub record HasReleased (allows : List ℕ → List ℕ → Type 0) (old new : ArraySeat) (handoff : Handoff) : Type 0 where
  pub no_slot : HasNoSlot new
  pub advances : SeatAdvances allows old new handoff.steps
  pub releases : (y : Payload) → HasSlot old y → ReleasesLine (ghost_of old) y (ghost_of new)
  pub granted : handoff.cell ≡ turn_cell new
  pub steps : handoff.steps + 1 + 3 * length (ghost_of old).view.ends ≡ 3 * length (ghost_of new).view.ends
  pub bound : handoff.steps + 1 ≤ 3 * (ghost_of old).view.config.nodes

-- the seat of a holder that found this word at the next cell, whose node had withdrawn
pub record MayWalk (id : TableId) (cell found : ℕ) (s : ArraySeat) : Type 0 where
  pub table : IsSeatOf word_count id s
  pub point : IsAt Passing s
  pub at_turn : cell ≡ turn_cell s
  pub not_zero : found ≢ 0
  pub passed : (ghost_of s).own.passed ≡ length (ghost_of s).view.ends ∷ []
  pub others : AreOfOthers (ghost_of s).view.node (ghost_of s).view.order (ghost_of s).own.passed
  pub first : (r : Request) × At (ghost_of s).view.order (length (ghost_of s).view.ends) r × (r.node ≡ withdrawn_by found) × (r.node ≤ (ghost_of s).view.config.nodes)
  pub nodes : (2 ≤ (ghost_of s).view.config.nodes) × ((ghost_of s).view.config.nodes ≤ MAX_NODES)
  pub payload : (y : Payload) × HasSlot s y × MatchesEnds (ghost_of s) y × ((ghost_of s).view.state ≡ state_after y.closed)

-- what `walk` ensures: the withdrawn requests are passed, with this outcome
pub record HasWalked (allows : List ℕ → List ℕ → Type 0) (old new : ArraySeat) (handoff : Handoff) : Type 0 where
  pub no_slot : HasNoSlot new
  pub advances : SeatAdvances allows old new handoff.steps
  pub finishes_walk : FinishesWalk (ghost_of old) (ghost_of new)
  pub granted : handoff.cell ≡ turn_cell new
  pub steps : handoff.steps + 3 * length (ghost_of old).view.ends ≡ 3 * length (ghost_of new).view.ends
  pub bound : handoff.steps + 3 ≤ 3 * (ghost_of old).view.config.nodes
