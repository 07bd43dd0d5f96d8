-- How a node requests the line. (As in IEEE Std 1596-1992, a requester puts itself at the head of the line's list.)
use Rattle.std.specs.Prelude.{◌≡◌, ◌≢◌, ◌⊎◌, ℕ, ◌+◌, ◌≤◌, length, slice_get, Some}
use Rattle.qolb_model.specs.declared.answer.PortState.TheVariants.{Left, Rolled}
use Rattle.qolb_model.specs.declared.view.View.{View}
use Rattle.qolb_model.specs.Requests.{Has, Lacks}
use Rattle.qolb_model.specs.Views.{own}

-- busy: the port's last request ended in its own mailbox or was withdrawn, and is not clear, so the port made no
-- request
pub record IsBusy (old new : View) : Type 0 where
  pub was : (old.state ≡ Left) ⊎ (old.state ≡ Rolled)
  pub unclear : Lacks new.clear (own new)
  pub state : new.state ≡ old.state
  pub count : new.count ≡ old.count

-- the port cannot be busy: its last request neither ended in its own mailbox nor was withdrawn, or the port knows that
-- it is clear
abbrev pub IsClear : View → Type 0
IsClear v = ((v.state ≢ Left) × (v.state ≢ Rolled)) ⊎ Has v.clear (own v)

-- the port made a request: its last request was clear, and the new one is behind all requests that the port knew
pub record Asks (old new : View) : Type 0 where
  pub was_clear : 1 ≤ old.count → Has new.clear (own old)
  pub count : new.count ≡ old.count + 1
  pub behind : (p : ℕ) × (length old.order ≤ p) × (slice_get new.order p ≡ Some (own new))

-- the port's last request is joined: it is linked to its predecessor's, or was at its turn when it was made
abbrev pub IsJoined : View → Type 0
IsJoined v = Has v.joined (own v)
