-- What a thread knows about the lock after a call that did not get the lock.
use Rattle.std.specs.Prelude.{◌≡◌, ℕ, ◌≤◌}
use Rattle.atomic_table.specs.declared.shared.Seat.{Seat}
use Rattle.lock_core.specs.declared.view.View.{View}
use Rattle.std.specs.declared.time.Duration.{Duration}
use Rattle.lock_core.specs.Views.{view_of, IsSeatOf, IsIdle, IsOutside, IsNotServed, KnowsShut}
use Rattle.fair_lock.specs.declared.lock.FairLock.{FairLock}
use Rattle.fair_lock.specs.declared.outcomes.Closed.{Closed}
use Rattle.fair_lock.specs.declared.outcomes.Busy.{Busy}
use Rattle.fair_lock.specs.declared.outcomes.TimedOut.{TimedOut}
use Rattle.fair_lock.specs.declared.outcomes.Left.{Left}
use Rattle.fair_lock.specs.declared.outcomes.TryEnterError.{TryEnterError}
use Rattle.fair_lock.specs.declared.outcomes.TryEnterError.TheVariants as tried
use Rattle.fair_lock.specs.declared.outcomes.EnterError.{EnterError}
use Rattle.fair_lock.specs.declared.outcomes.EnterError.TheVariants as entered

-- the thread is not inside
abbrev pub IsOut : View → Type 0
IsOut v = v.inside ≡ 0

module _ {T : Type 0} where
  -- the thread has no request at this lock, and is outside
  abbrev pub HasNoRequest : FairLock T → Seat T View → Type 0
  HasNoRequest lock seat = (seat.table_id ≡ lock.table.shared.table_id) × IsOutside (view_of seat)

  -- the span of this length was over, and the thread has no request
  abbrev pub IsTimedOutAt : FairLock T → Duration → TimedOut T → Type 0
  IsTimedOutAt lock at_most timed_out = HasNoRequest lock timed_out.seat × (timed_out.over.at_most ≡ at_most)

  -- the thread was told that this lock is shut, and is not served
  abbrev pub IsToldShut : FairLock T → Closed T → Type 0
  IsToldShut lock c = HasNoRequest lock c.seat × IsNotServed (view_of c.seat) × KnowsShut (view_of c.seat)

  abbrev pub IfTryClosed : (Closed T → Type 0) → TryEnterError T → Type 0
  IfTryClosed P (tried.Busy b) = Unit {0}
  IfTryClosed P (tried.Closed c) = P c

  abbrev pub IfTryBusy : (Busy T → Type 0) → TryEnterError T → Type 0
  IfTryBusy P (tried.Busy b) = P b
  IfTryBusy P (tried.Closed c) = Unit {0}

  abbrev pub IfEnterClosed : (Closed T → Type 0) → EnterError T → Type 0
  IfEnterClosed P (entered.Closed c) = P c
  IfEnterClosed P (entered.TimedOut l) = Unit {0}

  abbrev pub IfEnterTimedOut : (TimedOut T → Type 0) → EnterError T → Type 0
  IfEnterTimedOut P (entered.Closed c) = Unit {0}
  IfEnterTimedOut P (entered.TimedOut l) = P l

  -- the thread has left this lock: its request has ended, it is outside, and it is not served
  abbrev pub HasLeft : FairLock T → Left T → Type 0
  HasLeft lock l = IsSeatOf lock.table.shared.table_id lock.table.shared.key l.seat × IsIdle (view_of l.seat) × IsNotServed (view_of l.seat) × (2 ≤ lock.barging_limit → IsOutside (view_of l.seat))

  -- all requests with smaller numbers than this have ended, as far as the thread knows
  abbrev pub ended_by : Left T → ℕ
  ended_by l = (view_of l.seat).ended
