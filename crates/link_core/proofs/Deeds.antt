-- Lemmas about how each event changes the abstract queue that the state represents.
use Rattle.qolb_model.specs.declared.config.LineConfig.{LineConfig}
use Rattle.std.proofs.Common.{◌≡◌, ℕ, Bool, false, length, Option}
use Rattle.qolb_model.specs.Histories.{Clears}
use Rattle.qolb_model.specs.Queue.{Queue, Move}
use Rattle.link_core.specs.declared.told.Told.{Told as Answer}
use Rattle.link_core.specs.State.{State}
use Rattle.link_core.specs.Shown.{Matches}
use Rattle.link_core.specs.Moves.{made}
use Rattle.link_core.specs.Promise.{Says}

-- An act of n leads from a state that matches a queue to one that matches the queue after this move; besides, ended
-- requests are cleared, if they may be.
pub record Advances (config : LineConfig) (d : State) (h : Queue) (n : ℕ) (t : Answer) (move : Option Move) (may : Bool) : Type 0 where
  pub after : Queue
  pub makes : after ≡ record (made h move) { clear = after.clear }
  pub clears : Clears after.order (length after.ends) h.clear after.clear
  pub uncleared : may ≡ false → after.clear ≡ h.clear
  pub shows : Matches config d after
  pub says : Says after n t
