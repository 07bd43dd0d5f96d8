-- What holds once a thread has stopped waiting for a line. The definitions in this file were made for this project;
-- none is taken from the literature.
use Rattle.std.specs.Prelude.{◌≡◌, ◌≢◌, ◌⊎◌, ℕ, ◌+◌, ◌<◌, List, length}
use Rattle.qolb_model.specs.declared.write.Write.{Write}
use Rattle.qolb_model.specs.declared.view.View.{View}
use Rattle.qolb_model.specs.Views.{Extends}
use Rattle.qolb_model.specs.Sound.{Continues}
use Rattle.qolb_model.specs.Enqueueing.{IsBusy, Asks, IsJoined}
use Rattle.qolb_model.specs.AtTurn.{IsGranted, IsWithdrawn}
use Rattle.qolb_model.specs.Releasing.{IsTold}
use Rattle.qolb_model.specs.Counting.{Counters}
use Rattle.line_blocking.specs.declared.timed.TimedAcquire.{TimedAcquire}
use Rattle.line_blocking.specs.declared.timed.TimedAcquire.TheVariants as timed_acquire
use Rattle.line_blocking.specs.declared.spin.Got.{Got}
use Rattle.line_blocking.specs.declared.spin.Got.TheVariants.{Granted, Closed}

-- Bounded bypass of a whole wait. From the moment after the port had made its request (`asked`, before its first poll)
-- until the port held the line, fewer requests ended than the line has nodes. The record does not say that these
-- requests were of different nodes.
pub record ComesSoon {Port : Type 0} (view : Port → View) (counters : Port → Counters) (old new : Port) : Type 0 where
  pub asked : Port
  pub unlooked : (counters asked).poll_count ≡ (counters old).poll_count
  pub asks : Asks (view old) (view asked)
  pub advances : Extends (view asked) (view new)
  pub bounded_bypass : length (view new).ends < length (view asked).ends + (view asked).config.nodes

-- the port's request was granted, or told that the line is closed
pub record EndsWait (allows : List ℕ → List ℕ → Type 0) (old new : View) (turn : Write) (got : Got) : Type 0 where
  pub continues : Continues allows old new
  pub count : new.count ≡ old.count
  pub granted : got ≡ Granted → IsGranted new turn
  pub told : got ≡ Closed → IsTold new

-- the port's request was granted, or told that the line is closed; or it is withdrawn, because the wait timed out
pub record EndsWaitTimed (allows : List ℕ → List ℕ → Type 0) (old new : View) (turn : Write) (got : TimedAcquire) : Type 0 where
  pub continues : Continues allows old new
  pub count : new.count ≡ old.count
  pub granted : got ≡ timed_acquire.Granted → IsGranted new turn
  pub told : got ≡ timed_acquire.Closed → IsTold new
  pub late : got ≡ timed_acquire.TimedOut → IsWithdrawn new

-- the port made one request, which was granted, or told that the line is closed
pub record Acquires (allows : List ℕ → List ℕ → Type 0) (old new : View) (turn : Write) (got : Got) : Type 0 where
  pub continues : Continues allows old new
  pub asks : Asks old new
  pub joined : IsJoined new
  pub granted : got ≡ Granted → IsGranted new turn
  pub told : got ≡ Closed → IsTold new

-- a late port: it made its request behind another one and withdrew it, or it made none because its last request was not
-- clear
abbrev pub IsLate : View → View → Type 0
IsLate old new = (Asks old new × IsJoined new × IsWithdrawn new) ⊎ IsBusy old new

-- the port made one request, which was granted, or told that the line is closed; or the port was late
pub record AcquiresTimed (allows : List ℕ → List ℕ → Type 0) (old new : View) (turn : Write) (got : TimedAcquire) : Type 0 where
  pub continues : Continues allows old new
  pub asks : got ≢ timed_acquire.TimedOut → Asks old new
  pub joined : got ≢ timed_acquire.TimedOut → IsJoined new
  pub granted : got ≡ timed_acquire.Granted → IsGranted new turn
  pub told : got ≡ timed_acquire.Closed → IsTold new
  pub late : got ≡ timed_acquire.TimedOut → IsLate old new
