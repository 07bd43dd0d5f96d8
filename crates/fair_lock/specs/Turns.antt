-- Definitions with which contracts describe a critical section of a lock: which thread is in it, and how that thread
-- got the lock.
use Rattle.std.specs.Prelude.{◌≡◌, ◌≢◌, ℕ, ◌+◌, ◌-◌, ◌*◌, ◌%◌, ◌≤◌, ◌⊎◌, []}
use Rattle.std.specs.Borrow.{Lends, MutBor, Fml}
use mir.Syntax.{named}
use denote.RattleType.{RattleType}
use Rattle.atomic_table.specs.declared.shared.Seat.{Seat}
use Rattle.atomic_table.specs.Lent.{seat_with}
use Rattle.lock_core.specs.declared.view.View.{View}
use Rattle.lock_core.specs.Views.{view_of, IsSeatOf, IsAtTurn, IsInside, IsNewcomer, ServedOpen}
use Rattle.fair_lock.specs.declared.guard.Guard.{Guard}
use Rattle.fair_lock.specs.contracts.guard.Guard.{the_row}

-- The thread is served at a lock with this barging limit. In a strict lock its ticket is granted, and all earlier
-- requests have ended. In a barging lock the thread is inside.
abbrev pub IsServed : ℕ → ℕ → View → Type 0
IsServed barging_limit ticket v = (barging_limit ≤ 1 → IsAtTurn ticket v) × (2 ≤ barging_limit → IsInside v) × (v.door ≢ 0)

-- The thread came by a ticket with the number t. Since it drew that ticket, at most barging_limit - 1 newcomers went in
-- before each turn of the queue, from the first turn that was not over then up to its own. With p requests before it
-- these are (p + 1) * (barging_limit - 1) newcomers, and none in a strict lock.
abbrev pub CameByTicket : ℕ → ℕ → View → Type 0
CameByTicket barging_limit ticket v = (t : ℕ) × (ticket ≡ t % 18446744073709551616) × (t ≤ v.ticket) × (v.newcomers_seen ≤ v.newcomers_at_draw + (barging_limit - 1) * (t + 1 - v.first_pending))

-- The thread came by a ticket, or it is a newcomer, which is a thread that barged. A newcomer is one of at most
-- barging_limit - 1 since the last queue head.
abbrev pub CameInOrder : ℕ → ℕ → View → Type 0
CameInOrder barging_limit ticket v = CameByTicket barging_limit ticket v ⊎ IsNewcomer v

module _ {T : Type 0} where
  -- the call has taken at most k atomic steps
  abbrev pub TookAtMost : ℕ → Seat T View → Type 0
  TookAtMost k seat = (view_of seat).looks.steps ≤ k

  -- the thread came in order, overtaken by at most as many newcomers as the bound allows
  abbrev pub IsInOrder : Guard T → Type 0
  IsInOrder g = CameInOrder g.lock.now.barging_limit g.ticket (view_of g.seat)

  -- the number of the guard's request among all requests at a strict lock
  abbrev pub number_of : Guard T → ℕ
  number_of g = (view_of g.seat).ticket

  -- the value is a guard of its lock
  unfoldable pub IsGuard : Guard T → Type 0
  IsGuard g = IsSeatOf g.lock.now.table.shared.table_id g.lock.now.table.shared.key g.seat × IsServed g.lock.now.barging_limit g.ticket (view_of g.seat)

  -- the guard's thread was told that the lock is open
  abbrev pub IsOpen : Guard T → Type 0
  IsOpen g = ServedOpen (view_of g.seat)

  -- the guard lends the same value as before
  abbrev pub SameValue : Guard T → Guard T → Type 0
  SameValue old new = new.seat.me.1 ≡ old.seat.me.1

  abbrev pub with_value : Guard T → T → Guard T
  with_value g w = record g { seat = seat_with g.seat 0 w }

-- the guard ends with the value that was left behind the reference
abbrev pub LendsValue : (R : RattleType) → MutBor (Guard R.Denot) → MutBor R.Denot → Fml
LendsValue R g r = Lends (the_row (record { mir = named 1; lft = [] }) R) R g r (with_value g.now)
