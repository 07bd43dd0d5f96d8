-- How a port acquires a line with a bounded number of polls. In the definitions, `old` and `new` are the port's views
-- before and after the call. The definitions in this file were made for this project; none is taken from the
-- literature.
use Rattle.std.specs.Prelude.{◌≡◌, ◌≢◌, ℕ, ◌<◌, false, List, slice_get, Some}
use Rattle.qolb_model.specs.declared.write.Write.{Write}
use Rattle.qolb_model.specs.declared.end.End.{End}
use Rattle.qolb_model.specs.declared.request.Request.{Request}
use Rattle.qolb_model.specs.declared.view.View.{View}
use Rattle.qolb_model.specs.declared.acquire.Acquired.{Acquired}
use Rattle.qolb_model.specs.declared.acquire.Acquired.TheVariants.{Granted, Late, Closed, Busy}
use Rattle.qolb_model.specs.EndKinds.{is_served}
use Rattle.qolb_model.specs.Sound.{Continues}
use Rattle.qolb_model.specs.Enqueueing.{IsBusy, Asks, IsJoined}
use Rattle.qolb_model.specs.AtTurn.{IsGranted, IsWithdrawn}
use Rattle.qolb_model.specs.Releasing.{IsTold}

-- none of the requests that the port made in between was served, so the port changed no byte
abbrev pub IsUnserved : View → View → Type 0
IsUnserved old new = (p : ℕ) (r : Request) (e : End) → slice_get new.order p ≡ Some r → r.node ≡ new.node → old.count < r.number → slice_get new.ends p ≡ Some e → is_served e ≡ false

-- the port was granted the line, has withdrawn its request, was told that the line is closed, or was busy
pub record AcquiresBounded (allows : List ℕ → List ℕ → Type 0) (old new : View) (turn : Write) (answer : Acquired) : Type 0 where
  pub continues : Continues allows old new
  pub busy : answer ≡ Busy → IsBusy old new
  pub asks : answer ≢ Busy → Asks old new
  pub joined : answer ≢ Busy → IsJoined new
  pub granted : answer ≡ Granted → IsGranted new turn
  pub late : answer ≡ Late → IsWithdrawn new
  pub told : answer ≡ Closed → IsTold new
  pub unserved : answer ≢ Granted → IsUnserved old new
