-- Definitions with which contracts state what a caller knows about the lock.
use Rattle.std.specs.Prelude.{◌≡◌, ℕ, ◌+◌, ◌-◌, ◌*◌, ◌/◌, ◌%◌, ◌<◌, ◌≤◌, ◌≢◌, ◌⊎◌, [], ◌∷◌}
use Rattle.atomic_table.specs.Table.{Me}
use Rattle.atomic_table.specs.Seated.{TableId}
use Rattle.atomic_table.specs.declared.shared.Seat.{Seat}
use Rattle.lock_core.specs.declared.view.View.{View}
use Rattle.lock_core.specs.declared.view.Phase.{Phase}
use Rattle.lock_core.specs.declared.view.Phase.TheVariants.{Idle, Queued, Asleep, AtTurn, Passing, HeadInside}

-- The one premise of all claims, which is trusted by counting: at no time 2 ^ 30 requests are open at the lock. (If 2 ^
-- 64 tickets are drawn in the course of one call, that counts as such a load, so this must not happen either.)
abbrev pub max_open : ℕ
max_open = 1073741823

abbrev pub Timely : View → Type 0
Timely v = v.most_open ≤ max_open

abbrev pub view_of : {T : Type 0} → Seat T View → View
view_of seat = seat.me.0

-- this holds of a caller at a lock that is timely
abbrev pub InTime : {T : Type 0} → Seat T View → (View → Type 0) → Type 0
InTime seat P = Timely (view_of seat) → P (view_of seat)

-- the caller cannot be at a lock that is timely
abbrev pub NeverInTime : {T : Type 0} → Seat T View → Type 0
NeverInTime seat = Timely (view_of seat) → ⊥

-- this holds of a caller before and after a call, at a lock that is still timely
abbrev pub InTimeFrom : {T : Type 0} → Seat T View → Seat T View → (View → View → Type 0) → Type 0
InTimeFrom old new R = Timely (view_of new) → R (view_of old) (view_of new)

-- the caller has seen at least the load that it saw before
abbrev pub LoadGrows : {T : Type 0} → Seat T View → Seat T View → Type 0
LoadGrows old new = (view_of old).most_open ≤ (view_of new).most_open

-- All acquisitions from one queue head's to the next are of newcomers, except the queue head's own. In a strict lock
-- there are no newcomers.
abbrev pub max_newcomers_of : ℕ → ℕ
max_newcomers_of barging_limit = barging_limit - 1

-- The value in the slot of a table that has one. A caller has the value while it is served, which means that it was
-- told at the door that the lock is open or shut. At such a lock never more requests are open than `max_open`.
abbrev pub Carries : {T : Type 0} → ℕ → Me T View → Type 0
Carries {T} slots me = record {
  nothing : slots ≡ 0 → me.1 ≡ [];
  at_home : slots ≡ 1 → me.0.door ≡ 0 → me.1 ≡ [];
  carries : slots ≡ 1 → me.0.door ≢ 0 → (y : T) × (me.1 ≡ (0, y) ∷ []);
  timely : slots ≡ 1 → Timely me.0;
}

-- the caller has the same value as before
abbrev pub KeepsValue : {T : Type 0} → Seat T View → Seat T View → Type 0
KeepsValue old new = (view_of old).door ≢ 0 → (view_of new).door ≢ 0 → new.me.1 ≡ old.me.1

-- the seat of a caller of this lock
abbrev pub IsSeatOf : {T : Type 0} → TableId → ℕ → Seat T View → Type 0
IsSeatOf table barging_limit seat = (seat.table_id ≡ table) × Carries table.slots seat.me × (seat.me.0.max_newcomers ≡ max_newcomers_of barging_limit)

-- the view of a caller that knows nothing
abbrev pub initial_view : ℕ → View
initial_view c = record { max_newcomers = c; most_open = 0; ended = 0; rounds_seen = 0; ticket = 0; phase = Idle; counted = 0; granted = 0; told_nobody = 0; newcomers_at_draw = 0; first_pending = 0; newcomers_seen = 0; newcomer_number = 0; heads_before = 0; place_after_head = 0; inside = 0; door = 0; knows_shut = 0; epoch = 0; takes_seen = 0; last_take = 0; left_quietly = 0; slept_in_take = 0; sleeps_at_lock_word = 0; tail_seen = 0; next_is_at_turn = 0; drawn_open = 0; drawn_in_epoch = 0; nobody_behind = 0; looks = record { steps = 0; word = 0; found = 0; left = 0; word_before = 0; found_before = 0 } }

-- Requests. The caller has none.
abbrev pub IsIdle : View → Type 0
IsIdle v = (v.phase ≡ Idle) × (v.counted ≡ 0)

-- the caller draws its ticket behind each request that it knew of, and in no earlier epoch
abbrev pub DrawsAfter : View → View → Type 0
DrawsAfter v w = (v.ended ≤ w.first_pending) × (w.first_pending ≤ w.ticket) × (v.newcomers_seen ≤ w.newcomers_at_draw) × (w.newcomers_at_draw ≡ w.newcomers_seen) × (v.epoch ≤ w.drawn_in_epoch)

-- the caller waits with this ticket, and is not counted as a sleeper
abbrev pub IsQueued : ℕ → View → Type 0
IsQueued ticket v = (v.phase ≡ Queued) × (ticket ≡ v.ticket % 18446744073709551616) × (v.counted ≡ 0)

-- the same, and at most k rounds must be granted before its ticket is at its turn
abbrev pub IsQueuedWithin : ℕ → ℕ → View → Type 0
IsQueuedWithin k ticket v = IsQueued ticket v × (v.ticket / 4 + 1 ≤ v.rounds_seen + k)

-- the caller waits with this ticket, and is counted as a sleeper
abbrev pub IsAsleep : ℕ → View → Type 0
IsAsleep ticket v = (v.phase ≡ Asleep) × (ticket ≡ v.ticket % 18446744073709551616) × (v.counted ≡ 1)

-- the request waits in this phase
abbrev pub Awaits : Phase → Type 0
Awaits p = (p ≡ Queued) ⊎ (p ≡ Asleep)

-- the caller is at its turn with this ticket: all requests before it have ended
abbrev pub IsAtTurn : ℕ → View → Type 0
IsAtTurn ticket v = (v.phase ≡ AtTurn) × (ticket ≡ v.ticket % 18446744073709551616) × (v.ended ≡ v.ticket) × (v.counted ≡ 0)

-- the caller has the turn of a withdrawn request, whose mark is still set
abbrev pub IsPassing : ℕ → View → Type 0
IsPassing ticket v = (v.phase ≡ Passing) × (ticket ≡ v.ticket % 18446744073709551616) × (v.counted ≡ 0)

-- the caller has a turn of the queue: it is at its turn, and in a barging lock it is the queue head and possibly inside
-- already
abbrev pub HasTurn : View → Type 0
HasTurn v = (v.phase ≡ AtTurn) ⊎ (v.phase ≡ HeadInside)

abbrev pub HasTurnOf : ℕ → View → Type 0
HasTurnOf ticket v = HasTurn v × (ticket ≡ v.ticket % 18446744073709551616) × (v.counted ≡ 0)

-- the request is the same, and so is what the caller knew when it drew its ticket
abbrev pub SameRequest : View → View → Type 0
SameRequest v w = (w.ticket ≡ v.ticket) × (w.newcomers_at_draw ≡ v.newcomers_at_draw) × (w.first_pending ≡ v.first_pending)

-- The bound on overtaking. Since the caller drew its ticket, at most `max_newcomers` newcomers went in before each
-- queue head, counted from the first queue head whose turn was pending then up to the caller itself. These are (p + 1)
-- (B - 1) newcomers with p requests before the caller's, and none in a strict lock.
abbrev pub IsOvertakenInBounds : View → Type 0
IsOvertakenInBounds v = v.newcomers_seen ≤ v.newcomers_at_draw + v.max_newcomers * (v.ticket + 1 - v.first_pending)

-- the caller's turn has ended, and the next ticket is granted
abbrev pub HasGrantedNext : View → View → Type 0
HasGrantedNext v w = IsIdle w × (w.ended ≡ v.ticket + 1) × (w.granted ≡ v.ticket + 1) × (w.ticket ≡ v.ticket)

abbrev pub GrantedAfter : ℕ → View → Type 0
GrantedAfter ticket v = (ticket + 1) % 18446744073709551616 ≡ v.granted % 18446744073709551616

-- the caller was told that nobody sleeps for the ticket that it granted
abbrev pub GrantedToNobodyAsleep : View → Type 0
GrantedToNobodyAsleep v = v.told_nobody ≡ 1

-- The lock word. A caller without a turn of the queue is inside, or outside.
abbrev pub IsInside : View → Type 0
IsInside v = (v.inside ≡ 1) × IsIdle v

abbrev pub IsOutside : View → Type 0
IsOutside v = (v.inside ≡ 0) × IsIdle v

-- the queue head is inside, and still has its turn of the queue
abbrev pub IsHeadInside : ℕ → View → Type 0
IsHeadInside ticket v = (v.phase ≡ HeadInside) × (ticket ≡ v.ticket % 18446744073709551616) × (v.ended ≡ v.ticket) × (v.counted ≡ 0) × (v.inside ≡ 1)

-- the caller is a newcomer, which is a thread that barged: its acquisition has one of the `max_newcomers` places behind
-- the last queue head, and is the last acquisition that it knows of
abbrev pub IsNewcomer : View → Type 0
IsNewcomer v = (0 < v.newcomer_number) × (1 ≤ v.place_after_head) × (v.place_after_head ≤ v.max_newcomers) × (v.newcomers_seen ≡ v.newcomer_number)

-- the caller is inside, or outside, as before
abbrev pub SameInside : View → View → Type 0
SameInside v w = w.inside ≡ v.inside

abbrev pub SameNewcomer : View → View → Type 0
SameNewcomer v w = (w.newcomer_number ≡ v.newcomer_number) × (w.heads_before ≡ v.heads_before) × (w.place_after_head ≡ v.place_after_head)

-- the caller's take of the lock word comes after each take that it knew of
abbrev pub TakesLockWord : View → View → Type 0
TakesLockWord v w = (v.takes_seen < w.last_take) × (w.takes_seen ≡ w.last_take)

-- the caller barges after each newcomer and each take that it knew of, and in no earlier epoch
abbrev pub BargesAfter : View → View → Type 0
BargesAfter v w = (v.newcomers_seen < w.newcomer_number) × TakesLockWord v w × (v.epoch ≤ w.epoch)

abbrev pub SameTake : View → View → Type 0
SameTake v w = (w.last_take ≡ v.last_take) × (w.left_quietly ≡ v.left_quietly)

-- the take that the caller leaves is its last one, and the last that it knew of
abbrev pub LeavesSameTake : {T : Type 0} → Seat T View → Seat T View → Type 0
LeavesSameTake old new = ((view_of new).last_take ≡ (view_of old).last_take) × InTimeFrom old new (λ v w. v.takes_seen ≤ w.last_take)

-- as the caller left, it was told that no queue head sleeps at the lock word
abbrev pub LeftQuietly : View → Type 0
LeftQuietly v = v.left_quietly ≡ 1

-- the caller has announced its sleep at the lock word
abbrev pub SleepsAtLockWord : View → Type 0
SleepsAtLockWord v = v.sleeps_at_lock_word ≡ 1

abbrev pub SameSleepAtLockWord : View → View → Type 0
SameSleepAtLockWord v w = (w.slept_in_take ≡ v.slept_in_take) × (w.sleeps_at_lock_word ≡ v.sleeps_at_lock_word)

-- the caller announced its sleep in the last take that it knows of, which is none earlier
abbrev pub SleepsInTake : View → View → Type 0
SleepsInTake v w = (v.takes_seen ≤ w.slept_in_take) × (w.takes_seen ≡ w.slept_in_take)

-- Closing. When the caller was served, it was told that the lock is open, or that it is shut.
abbrev pub ServedOpen : View → Type 0
ServedOpen v = v.door ≡ 1

abbrev pub ServedShut : View → Type 0
ServedShut v = v.door ≡ 2

abbrev pub SameDoor : View → View → Type 0
SameDoor v w = w.door ≡ v.door

-- the caller knows that the lock was shut in this epoch
abbrev pub KnowsShut : View → Type 0
KnowsShut v = v.knows_shut ≡ 1

abbrev pub SameKnown : View → View → Type 0
SameKnown v w = (w.knows_shut ≡ v.knows_shut) × (w.epoch ≡ v.epoch)

-- what the caller knows of closing is of no earlier epoch
abbrev pub IsLaterEpoch : View → View → Type 0
IsLaterEpoch v w = v.epoch ≤ w.epoch

-- What a call does not change. A call of the queue does not change what concerns the lock word.
abbrev pub SameTurn : View → View → Type 0
SameTurn v w = SameNewcomer v w × (w.inside ≡ v.inside) × SameKnown v w × SameTake v w × SameSleepAtLockWord v w × (v.inside ≡ 1 → w.door ≡ v.door)

-- a call of closing does not change the request and the turn
abbrev pub Kept : View → View → Type 0
Kept v w = (w.phase ≡ v.phase) × (w.ticket ≡ v.ticket) × (w.ended ≡ v.ended) × (w.counted ≡ v.counted) × (w.newcomers_at_draw ≡ v.newcomers_at_draw) × (w.first_pending ≡ v.first_pending) × (w.inside ≡ v.inside) × SameNewcomer v w × SameTake v w

-- only what the caller's steps found has changed
abbrev pub OnlyLooks : View → View → Type 0
OnlyLooks v w = w ≡ record v { looks = w.looks }

-- the caller has the ticket after the one that it had
abbrev pub HasNextTicket : View → View → Type 0
HasNextTicket v w = w.ticket ≡ v.ticket + 1

-- the caller knows that the request that it had has ended
abbrev pub HasEnded : View → View → Type 0
HasEnded v w = v.ticket < w.ended

-- the caller knows of as many newcomers as before
abbrev pub SameNewcomersSeen : View → View → Type 0
SameNewcomersSeen v w = w.newcomers_seen ≡ v.newcomers_seen

-- the caller knows of as many newcomers as before, and knows of its request what it knew when it drew the ticket
abbrev pub SameOvertaking : View → View → Type 0
SameOvertaking v w = SameNewcomersSeen v w × (w.newcomers_at_draw ≡ v.newcomers_at_draw) × (w.first_pending ≡ v.first_pending)

-- the caller is not served
abbrev pub IsNotServed : View → Type 0
IsNotServed v = v.door ≡ 0

-- the caller has a turn of the queue, and is not counted as a sleeper
abbrev pub HasTurnAwake : View → Type 0
HasTurnAwake v = HasTurn v × (v.counted ≡ 0)
