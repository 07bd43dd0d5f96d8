-- What each part of a release requires of the seat of the releasing node, and what this part ensures for the seat.
-- There is one record for each part. The parameters of the records are the table `t`, and the changes `allows` that the
-- line's data invariant permits.
use Rattle.std.specs.Prelude.{◌≡◌, ◌≢◌, ◌⊎◌, ℕ, ◌+◌, ◌*◌, ◌≤◌, List, [], ◌∷◌, length}
use Rattle.qolb_model.specs.declared.config.TheConstants.{MAX_NODES}
use Rattle.qolb_model.specs.declared.request.Request.{Request}
use Rattle.qolb_model.specs.Requests.{AreOfOthers}
use Rattle.qolb_model.specs.PortStates.{state_after}
use Rattle.line_generic.specs.declared.table.Payload.{Payload}
use Rattle.line_generic.specs.Calls.{LineTable}
use Rattle.line_generic.specs.PortPhases.{PortPhases}
use Rattle.line_generic.specs.Steps.{IsSameSeat, IsSeatOf, HasNoSlot}
use Rattle.line_cells.specs.declared.local.Local.{Local}
use Rattle.line_cells.specs.declared.local.Point.TheVariants.{Holding, Passing, Freeing}
use Rattle.line_cells.specs.Array.{At}
use Rattle.line_cells.specs.BetweenCalls as between_calls
use Rattle.line_cells.specs.Counting.{mask_for}
use Rattle.line_cells.specs.Layout.{ticket_of}
use Rattle.line_cells.specs.Releases.{MatchesEnds, ReleasesLine, FinishesWalk, AreNodesAt, FreesAll}
use Rattle.line_cells.specs.Steps.{ArraySeat, IsAt, ghost_of, SeatAdvances, IsNextPayload, Ended, IsHandedOver, Passes}
use Rattle.ticket_line.specs.declared.release.Handoff.{Handoff}
use Rattle.ticket_line.specs.Layout.{word_count}
use Rattle.ticket_line.specs.Slots.{slots_at_grant, slots_in_turn, slots_at_release}
use Rattle.ticket_line.specs.Steps.{KnowsNodes, turn_ticket, next_ticket, SlotsAtGrant, SlotsAtRelease}

-- the phases of a node, with the slots that it has in each
abbrev pub phases : PortPhases Local
phases = between_calls.phases ticket_of slots_at_grant slots_in_turn slots_at_release

module _ {P : Type 0} (t : LineTable Local P) where
  -- the seat of a holder that has not passed any request
  pub record IsReleaser (allows : List ℕ → List ℕ → Type 0) (mask turn : ℕ) (s : ArraySeat) : Type 0 where
    pub table : IsSeatOf (word_count t.key.config.nodes) t.table_id s
    pub point : IsAt Holding s
    pub mask_fits : mask ≡ mask_for t.key.config.nodes
    pub knows_nodes : KnowsNodes t.key.config.nodes s
    pub none_passed : (ghost_of s).own.passed ≡ []
    pub ticket : turn ≡ turn_ticket s
    pub nodes : 1 ≤ (ghost_of s).view.config.nodes
    pub payload : (y : Payload) × SlotsAtRelease t.key.config.nodes turn s y × IsNextPayload allows (ghost_of s) y

  -- the seat of a holder whose successor, this node, had withdrawn
  pub record MayWalk (mask turn node : ℕ) (s : ArraySeat) : Type 0 where
    pub table : IsSeatOf (word_count t.key.config.nodes) t.table_id s
    pub point : IsAt Passing s
    pub mask_fits : mask ≡ mask_for t.key.config.nodes
    pub knows_nodes : KnowsNodes t.key.config.nodes s
    pub ticket : turn ≡ turn_ticket s
    pub not_zero : node ≢ 0
    pub passed : (ghost_of s).own.passed ≡ length (ghost_of s).view.ends ∷ []
    pub others : AreOfOthers (ghost_of s).view.node (ghost_of s).view.order (ghost_of s).own.passed
    pub first : (r : Request) × At (ghost_of s).view.order (length (ghost_of s).view.ends) r × (r.node ≡ node) × (r.node ≤ (ghost_of s).view.config.nodes)
    pub nodes : (2 ≤ (ghost_of s).view.config.nodes) × ((ghost_of s).view.config.nodes ≤ MAX_NODES)
    pub payload : (y : Payload) × SlotsAtGrant t.key.config.nodes turn s y × MatchesEnds (ghost_of s) y × ((ghost_of s).view.state ≡ state_after y.closed)

  -- the seat has passed requests of these nodes, none of which is freed yet
  pub record MayFreeAll (passed : List ℕ) (s : ArraySeat) : Type 0 where
    pub table : IsSeatOf (word_count t.key.config.nodes) t.table_id s
    pub point : IsAt Freeing s
    pub knows_nodes : KnowsNodes t.key.config.nodes s
    pub not_empty : (ghost_of s).own.passed ≢ []
    pub same_length : length passed ≡ length (ghost_of s).own.passed
    pub nodes : AreNodesAt (ghost_of s).view (ghost_of s).own.passed passed

  -- the seat has the line stored for the successor with this ticket
  pub record MayGrant (allows : List ℕ → List ℕ → Type 0) (mask ticket : ℕ) (s : ArraySeat) : Type 0 where
    pub table : IsSeatOf (word_count t.key.config.nodes) t.table_id s
    pub point : IsAt Holding s ⊎ IsAt Passing s
    pub mask_fits : mask ≡ mask_for t.key.config.nodes
    pub nodes : KnowsNodes t.key.config.nodes s
    pub next : ticket ≡ next_ticket s
    pub payload : (y : Payload) × SlotsAtRelease t.key.config.nodes (turn_ticket s) s y × IsNextPayload allows (ghost_of s) y

  -- what `grant` ensures: the turn has ended, and either the line is home or the seat passes a request
  pub record HasGranted (allows : List ℕ → List ℕ → Type 0) (ticket : ℕ) (old new : ArraySeat) (node : ℕ) : Type 0 where
    pub advances : SeatAdvances allows old new 1
    pub ended : (y : Payload) → SlotsAtRelease t.key.config.nodes (turn_ticket old) old y → Ended (ghost_of old) (ghost_of new) y
    pub handed_over : node ≡ 0 → HasNoSlot new × IsHandedOver (ghost_of old) (ghost_of new)
    pub passes : node ≢ 0 → ((y : Payload) → SlotsAtRelease t.key.config.nodes (turn_ticket old) old y → SlotsAtGrant t.key.config.nodes ticket new y) × Passes (ghost_of old) node (ghost_of new)

  -- what `copy_to_next_slot` ensures: the granted line is in the successor's slot, too
  pub record HasCopied (ticket : ℕ) (old new : ArraySeat) : Type 0 where
    pub seat : IsSameSeat old new × (new.me.0 ≡ old.me.0)
    pub stored : (y : Payload) → SlotsAtGrant t.key.config.nodes ticket old y → SlotsAtRelease t.key.config.nodes ticket new y

  -- what `release` ensures: the line is released, with this outcome
  pub record HasReleased (allows : List ℕ → List ℕ → Type 0) (ticket : ℕ) (old new : ArraySeat) (handoff : Handoff) : Type 0 where
    pub no_slot : HasNoSlot new
    pub advances : SeatAdvances allows old new handoff.steps
    pub releases : (y : Payload) → SlotsAtRelease t.key.config.nodes ticket old y → ReleasesLine (ghost_of old) y (ghost_of new)
    pub granted : handoff.ticket ≡ turn_ticket new
    pub steps : handoff.steps + 1 + 2 * length (ghost_of old).view.ends ≡ 2 * length (ghost_of new).view.ends
    pub bound : handoff.steps + 1 ≤ 2 * (ghost_of old).view.config.nodes

module _ (allows : List ℕ → List ℕ → Type 0) where
  -- what `walk` ensures: the withdrawn requests are passed, with this outcome
  pub record HasWalked (old new : ArraySeat) (handoff : Handoff) : Type 0 where
    pub no_slot : HasNoSlot new
    pub advances : SeatAdvances allows old new handoff.steps
    pub finishes_walk : FinishesWalk (ghost_of old) (ghost_of new)
    pub granted : handoff.ticket ≡ turn_ticket new
    pub steps : handoff.steps + 2 * length (ghost_of old).view.ends ≡ 2 * length (ghost_of new).view.ends
    pub bound : handoff.steps + 2 ≤ 2 * (ghost_of old).view.config.nodes

  -- what `free_passed` ensures: the nodes of all passed requests are freed
  pub record HasFreedAll (passed : List ℕ) (old new : ArraySeat) : Type 0 where
    pub keeps_slot : new.me.1 ≡ old.me.1
    pub advances : SeatAdvances allows old new (length passed)
    pub frees : FreesAll (ghost_of old) (ghost_of new)
