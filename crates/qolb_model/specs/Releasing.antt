-- How a holder releases the line, and how a node forwards a line that has been closed. (Handing the line over to the
-- next node in the list is from Goodman, Vernon and Woest, 1989. Withdrawal and closing are this project's own.)
use Rattle.std.specs.Prelude.{◌≡◌, ◌⊎◌, ℕ, ◌+◌, ◌<◌, ◌≤◌, true, List, ◌++◌, ◌∷◌, length, replicate, slice_get, Some}
use Rattle.qolb_model.specs.declared.answer.PortState.{PortState}
use Rattle.qolb_model.specs.declared.answer.PortState.TheVariants.{Left, Shut}
use Rattle.qolb_model.specs.declared.request.Request.{Request}
use Rattle.qolb_model.specs.declared.end.End.{End}
use Rattle.qolb_model.specs.declared.end.End.TheVariants.{Gone, Told}
use Rattle.qolb_model.specs.declared.view.View.{View}
use Rattle.qolb_model.specs.Requests.{Has, Lacks, AreOfDifferentNodes}
use Rattle.qolb_model.specs.Ends.{is_closed}
use Rattle.qolb_model.specs.Histories.{turn_of}
use Rattle.qolb_model.specs.Views.{own}
use Rattle.qolb_model.specs.AtTurn.{IsClearBefore}

-- The successor's request is made, and the port does not know that it is joined. This is the window between swap and
-- link of an MCS lock.
abbrev pub SuccessorUnlinked : View → Type 0
SuccessorUnlinked v = (r : Request) × (turn_of v.order v.ends ≡ Some r) × Lacks v.joined r

-- What holds after a release that has passed the withdrawn requests from place `from` on. The port knows each request
-- that it ended. The next request is not withdrawn. Each passed request is freed, and clear too, except possibly the
-- last one if the successor is unlinked. The line stays in the node's own mailbox only if the successor is unlinked and
-- no request was passed; otherwise the node's request is clear.
pub record AfterRelease (from : ℕ) (leaves : PortState) (new : View) : Type 0 where
  pub known : length new.ends ≤ length new.order
  pub unmarked : (r : Request) → turn_of new.order new.ends ≡ Some r → Lacks new.marked r
  pub freed : (p : ℕ) (r : Request) → from ≤ p → p < length new.ends → slice_get new.order p ≡ Some r → Has new.freed r
  pub cleared : (p : ℕ) (r : Request) → from ≤ p → p < length new.ends → slice_get new.order p ≡ Some r → Has new.clear r ⊎ ((p + 1 ≡ length new.ends) × SuccessorUnlinked new)
  pub state : ((new.state ≡ Left) × SuccessorUnlinked new × (length new.ends ≡ from)) ⊎ ((new.state ≡ leaves) × Has new.clear (own new))

-- The turn of a port that had the line is over. The ends that the port knew are extended by that of its request, and by
-- those of the withdrawn requests behind it, each of a different node.
pub record EndsTurn (old : View) (end : End) (leaves : PortState) (new : View) : Type 0 where
  pub passed : ℕ
  pub ends : new.ends ≡ old.ends ++ end ∷ replicate passed Gone
  pub at_turn : slice_get new.order (length old.ends) ≡ Some (own new)
  pub count : new.count ≡ old.count
  pub once : AreOfDifferentNodes new.order (length old.ends) (length new.ends)
  pub releases : AfterRelease (length old.ends + 1) leaves new

-- Told: the port's request reached its turn on a line that an earlier end had closed. The port forwarded the line past
-- withdrawn requests, each of a different node.
pub record IsTold (new : View) : Type 0 where
  pub before : List End
  pub passed : ℕ
  pub ends : new.ends ≡ before ++ Told ∷ replicate passed Gone
  pub at_turn : slice_get new.order (length before) ≡ Some (own new)
  pub closed : is_closed before ≡ true
  pub once : AreOfDifferentNodes new.order (length before) (length new.ends)
  pub releases : AfterRelease (length before + 1) Shut new
  pub clear_before : IsClearBefore new (length before)
