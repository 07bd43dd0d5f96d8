-- What a release requires of the seat of the node that holds the line, and what the release ensures for this seat. The
-- file states the same for the part of a release that skips withdrawn requests. In the records, `many` is the number of
-- the line's nodes, and `id` is the number of its table.
use Rattle.std.specs.Prelude.{◌≡◌, ℕ, ◌+◌, ◌*◌, ◌<◌, ◌≤◌, List, [], ◌∷◌, length, Bool}
use Rattle.atomic_table.specs.Seated.{TableId}
use Rattle.qolb_model.specs.declared.config.TheConstants.{MAX_NODES}
use Rattle.qolb_model.specs.declared.request.Request.{Request}
use Rattle.qolb_model.specs.Requests.{AreOfOthers}
use Rattle.qolb_model.specs.PortStates.{state_after}
use Rattle.link_core.specs.declared.point.Point.TheVariants.{Leaving}
use Rattle.line_generic.specs.declared.discipline.Released.{Released}
use Rattle.line_generic.specs.declared.table.Payload.{Payload}
use Rattle.line_generic.specs.Steps.{IsSameSeat, HasSlot, HasNoSlot}
use Rattle.link_line.specs.declared.release.Walked.{Walked}
use Rattle.link_line.specs.Links.{At}
use Rattle.link_line.specs.BetweenCalls.{release_steps, wake_word}
use Rattle.link_line.specs.Layout.{IsWithin, word_count}
use Rattle.link_line.specs.Steps.{LinkSeat, IsSeatOf, IsAt, IsSeatOfNode, KnowsNodes, IsOfOneNode, ghost_of, Advances, SeatAdvances, MayHandOff}
use Rattle.link_line.specs.Releases.{ReleasesLine, FinishesWalk}

-- the seat of a holder that has not passed any request, and whose turn leaves the line closed or not
pub record IsReleaser (allows : List ℕ → List ℕ → Type 0) (many : ℕ) (id : TableId) (node : ℕ) (closed : Bool) (s : LinkSeat) : Type 0 where
  pub seat : IsSeatOfNode many id node s
  pub of_one_node : IsOfOneNode s.me
  pub none_passed : (ghost_of s).own.passed ≡ []
  pub nodes : (1 ≤ (ghost_of s).view.config.nodes) × ((ghost_of s).view.config.nodes ≤ MAX_NODES)
  pub payload : (y : Payload) × HasSlot s y × MayHandOff allows (ghost_of s) y node × (y.closed ≡ closed)

-- what `release` ensures: the line is released, with this outcome
pub record HasReleased (allows : List ℕ → List ℕ → Type 0) (many : ℕ) (old new : LinkSeat) (released : Released) : Type 0 where
  pub no_slot : HasNoSlot new
  pub advances : SeatAdvances allows old new released.steps
  pub releases : (y : Payload) → HasSlot old y → ReleasesLine (ghost_of old) y released.state (ghost_of new)
  pub steps : release_steps (length (ghost_of old).view.ends) (length (ghost_of new).view.ends) released.steps
  pub unpark : released.unpark.word < word_count many
  pub names_wake_word : released.unpark.word ≡ wake_word (ghost_of new).view
  pub bound : released.steps + 3 ≤ 4 * (ghost_of old).view.config.nodes

-- the seat of a holder whose successor, this node, had withdrawn; the holder has taken some steps
pub record MayWalk (many : ℕ) (id : TableId) (taken node : ℕ) (s : LinkSeat) : Type 0 where
  pub table : IsSeatOf many id s
  pub point : IsAt (Leaving node) s
  pub in_range : IsWithin many node
  pub passed : (ghost_of s).own.passed ≡ length (ghost_of s).view.ends ∷ []
  pub others : AreOfOthers (ghost_of s).view.node (ghost_of s).view.order (ghost_of s).own.passed
  pub first : (r : Request) × At (ghost_of s).view.order (length (ghost_of s).view.ends) r × (r.node ≡ node)
  pub nodes : (2 ≤ (ghost_of s).view.config.nodes) × ((ghost_of s).view.config.nodes ≤ MAX_NODES)
  pub knows_nodes : KnowsNodes many s
  pub no_overflow : taken ≤ 6
  pub payload : HasSlot s (ghost_of s).own.line
  pub state : (ghost_of s).view.state ≡ state_after (ghost_of s).own.line.closed

-- what `walk` ensures: the withdrawn requests are passed, and the line has left the seat
pub record HasWalked (allows : List ℕ → List ℕ → Type 0) (many taken : ℕ) (old new : LinkSeat) (walked : Walked) : Type 0 where
  pub seat : IsSameSeat old new
  pub no_slot : HasNoSlot new
  pub advances : (n : ℕ) × (walked.steps ≡ taken + n) × Advances allows old.me new.me n
  pub finishes_walk : FinishesWalk (ghost_of old) (ghost_of new)
  pub steps : (n : ℕ) × (walked.steps ≡ taken + n) × (4 * length (ghost_of new).view.ends ≤ 4 * length (ghost_of old).view.ends + n + 2) × (n + 4 * length (ghost_of old).view.ends ≤ 4 * length (ghost_of new).view.ends)
  pub within : walked.word < word_count many
  pub names_wake_word : walked.word ≡ wake_word (ghost_of new).view
  pub bound : walked.steps + 6 ≤ taken + 4 * (ghost_of old).view.config.nodes
