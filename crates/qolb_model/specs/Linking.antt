-- How a node requests the line with two calls. The first call makes the request, and the second call links the request
-- to its predecessor. (The first call is the prepend of IEEE Std 1596-1992.)
use Rattle.std.specs.Prelude.{◌≡◌}
use Rattle.qolb_model.specs.declared.answer.PortState.TheVariants.{Linking}
use Rattle.qolb_model.specs.declared.view.View.{View}
use Rattle.qolb_model.specs.Requests.{Lacks}
use Rattle.qolb_model.specs.Views.{own}
use Rattle.qolb_model.specs.Enqueueing.{IsJoined}
use Rattle.qolb_model.specs.AtTurn.{Waits, IsBoundedBypass}

-- linking: the port's request is made and behind another one, not linked to that one yet, and not withdrawn
pub record IsLinking (new : View) : Type 0 where
  pub state : new.state ≡ Linking
  pub waits : Waits new
  pub near : IsBoundedBypass new
  pub unjoined : Lacks new.joined (own new)
  pub unmarked : Lacks new.marked (own new)

-- the port's request is now linked to its predecessor's, and is the same request
pub record Links (old new : View) : Type 0 where
  pub count : new.count ≡ old.count
  pub joined : IsJoined new
