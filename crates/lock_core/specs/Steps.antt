-- What a caller learns from each kind of atomic step.
use Rattle.std.specs.Prelude.{◌==◌, ◌≡◌, ◌≢◌, ℕ, ◌+◌, ◌-◌, ◌/◌, ◌%◌, ◌<◌, ◌≤◌}
use Rattle.std.specs.Int.{bit_at}
use prog.Atomic.{either}
use Rattle.atomic_table.specs.Table.{Step, Me}
use Rattle.lock_core.specs.declared.view.View.{View}
use Rattle.lock_core.specs.declared.view.Phase.{Phase}
use Rattle.lock_core.specs.declared.view.Phase.TheVariants.{Idle, Queued, Asleep, AtTurn, Passing, HeadInside}
use Rattle.lock_core.specs.Layout.{asleep_of, bit_of, count_of, rounds_of, shut_of, to_go}
use Rattle.lock_core.specs.Looks.{looked}
use Rattle.lock_core.specs.Views.{OnlyLooks, DrawsAfter, IsAtTurn, GrantedToNobodyAsleep, HasGrantedNext, HasTurn, IsIdle, IsInside, IsNewcomer, IsNotServed, IsOutside, IsOvertakenInBounds, IsQueued, Kept, KnowsShut, LeftQuietly, SameInside, SameKnown, SameNewcomersSeen, SameNewcomer, SameOvertaking, SameRequest, SameSleepAtLockWord, SameTurn, ServedOpen, ServedShut, SleepsAtLockWord, TakesLockWord, Timely}

-- the word that a step leaves: after a load, an addition, a subtraction (also of 0), or an exchange that found the
-- expected word
abbrev pub kept_word : Step ℕ → ℕ → ℕ
kept_word st n = n

abbrev pub added_word : Step ℕ → ℕ → ℕ
added_word st n = (n + st.first) % 18446744073709551616

abbrev pub subtracted_word : Step ℕ → ℕ → ℕ
subtracted_word st n = (n + (18446744073709551616 - st.first)) % 18446744073709551616

abbrev pub exchanged_word : Step ℕ → ℕ → ℕ
exchanged_word st n = either (n == st.first) st.second n

-- besides what a step tells, the step is counted, and what it found is noted
abbrev pub noting : (Step ℕ → ℕ → ℕ) → (Step ℕ → Me ℕ View → ℕ → Me ℕ View → Type 0) → Step ℕ → Me ℕ View → ℕ → Me ℕ View → Type 0
noting left tells st m n m' = (m'.0.looks ≡ looked st n (left st n) m.0.looks) × tells st m n m'

-- What each step tells. A new caller knows only what its first step found.
abbrev pub comes : Step ℕ → Me ℕ View → ℕ → Me ℕ View → Type 0
comes st m n m' = m' ≡ (record m.0 { looks = looked st n n m.0.looks }, m.1)

abbrev pub more : Me ℕ View → Me ℕ View → Type 0
more m m' = (m'.1 ≡ m.1) × (m'.0.max_newcomers ≡ m.0.max_newcomers) × (m.0.most_open ≤ m'.0.most_open) × (m.0.newcomers_seen ≤ m'.0.newcomers_seen)

abbrev pub same : Me ℕ View → Me ℕ View → Type 0
same m m' = more m m' × SameTurn m.0 m'.0

abbrev pub draws : Step ℕ → Me ℕ View → ℕ → Me ℕ View → Type 0
draws st m n m' = same m m' × (Timely m'.0 → IsQueued n m'.0 × DrawsAfter m.0 m'.0)

-- the caller reads how many tickets were drawn; a caller at its turn learns from this whether a request came after its
-- own
abbrev pub reads : Step ℕ → Me ℕ View → ℕ → Me ℕ View → Type 0
reads st m n m' = same m m' × Kept m.0 m'.0 × (m'.0.door ≡ m.0.door) × (Timely m'.0 → (n ≡ m'.0.tail_seen % 18446744073709551616) × (HasTurn m.0 → n ≡ (m.0.ticket + 1) % 18446744073709551616 → m'.0.nobody_behind ≡ 1))

-- A caller that tries for a ticket has read the tail, and now reads the ticket's cell: whether the ticket is at its
-- turn, and otherwise how many rounds it has to go. Then it draws the ticket, if that is still the next one.
abbrev pub reads_cell : Step ℕ → Me ℕ View → ℕ → Me ℕ View → Type 0
reads_cell st m n m' = same m m' × (Timely m'.0 → IsIdle m'.0 × (m'.0.tail_seen ≡ m.0.tail_seen) × (to_go n m.0.tail_seen ≡ 0 → m'.0.next_is_at_turn ≡ 1) × (0 < to_go n m.0.tail_seen → m'.0.next_is_at_turn ≡ 0) × (m'.0.ticket ≡ m.0.tail_seen) × (m.0.tail_seen / 4 + 1 ≤ m'.0.rounds_seen + to_go n m.0.tail_seen) × (m'.0.ended ≡ m.0.ended))

abbrev pub draws_granted : Step ℕ → Me ℕ View → ℕ → Me ℕ View → Type 0
draws_granted st m n m' = same m m' × (Timely m'.0 → (n ≡ st.first → IsAtTurn n m'.0 × DrawsAfter m.0 m'.0) × (n ≢ st.first → IsIdle m'.0 × (m'.0.tail_seen ≡ m.0.tail_seen)))

-- the same for a ticket that was found near its turn: the caller waits, or is at its turn already
abbrev pub draws_near : Step ℕ → Me ℕ View → ℕ → Me ℕ View → Type 0
draws_near st m n m' = same m m' × (Timely m'.0 → (n ≡ st.first → (n ≡ m'.0.ticket % 18446744073709551616) × (m'.0.ticket ≡ m.0.tail_seen) × (m'.0.rounds_seen ≡ m.0.rounds_seen) × (m'.0.counted ≡ 0) × DrawsAfter m.0 m'.0 × (m.0.next_is_at_turn ≡ 1 → (m'.0.phase ≡ AtTurn) × (m'.0.ended ≡ m'.0.ticket)) × (m.0.next_is_at_turn ≡ 0 → m'.0.phase ≡ Queued)) × (n ≢ st.first → IsIdle m'.0 × (m'.0.tail_seen ≡ m.0.tail_seen)))

-- a waiter's view after a look: the waiter is at its turn, or waits on in the phase p, and is counted this often
abbrev pub finds : ℕ → Phase → ℕ → View → ℕ → View → Type 0
finds counted p waiting v n w = (w.ticket ≡ v.ticket) × (w.newcomers_at_draw ≡ v.newcomers_at_draw) × (w.first_pending ≡ v.first_pending)
    × (to_go n v.ticket ≡ 0 → (w.phase ≡ AtTurn) × (w.ended ≡ w.ticket) × (w.counted ≡ counted) × IsOvertakenInBounds w)
    × (0 < to_go n v.ticket → (w.phase ≡ p) × (w.counted ≡ waiting) × (v.ticket / 4 + 1 ≤ w.rounds_seen + to_go n v.ticket))

abbrev pub looks : Step ℕ → Me ℕ View → ℕ → Me ℕ View → Type 0
looks st m n m' = same m m' × (Timely m'.0 → finds 0 Queued 0 m.0 n m'.0)

-- the waiter counts itself, if the word is the one that it read; otherwise the step was only a look
abbrev pub announces_sleep : Step ℕ → Me ℕ View → ℕ → Me ℕ View → Type 0
announces_sleep st m n m' = same m m' × (Timely m'.0 → (n ≡ st.first → finds 1 Asleep 1 m.0 n m'.0) × (n ≢ st.first → finds 0 Queued 0 m.0 n m'.0))

abbrev pub sets_withdrawn : Step ℕ → Me ℕ View → ℕ → Me ℕ View → Type 0
sets_withdrawn st m n m' = same m m' × (Timely m'.0 → (m'.0.ticket ≡ m.0.ticket) × (m'.0.counted ≡ 0) × (rounds_of n ≡ (m.0.ticket / 4 + 1) % 1073741824 → (m'.0.phase ≡ Passing) × SameRequest m.0 m'.0 × IsOvertakenInBounds m'.0) × (rounds_of n ≢ (m.0.ticket / 4 + 1) % 1073741824 → m'.0.phase ≡ Idle))

-- the caller grants the next ticket
abbrev pub grants_to : View → ℕ → View → Type 0
grants_to v n w = (bit_at n (bit_of (v.ticket + 1)) ≡ 0 → HasGrantedNext v w × (count_of n ≡ 0 → GrantedToNobodyAsleep w)) × (bit_at n (bit_of (v.ticket + 1)) ≡ 1 → (w.phase ≡ Passing) × (w.ticket ≡ v.ticket + 1) × (w.counted ≡ 0))

abbrev pub grants : Step ℕ → Me ℕ View → ℕ → Me ℕ View → Type 0
grants st m n m' = same m m' × (Timely m'.0 → grants_to m.0 n m'.0) × SameOvertaking m.0 m'.0 × (m.0.max_newcomers ≡ 0 → Timely m'.0 → IsNotServed m'.0)

abbrev pub clears_withdrawn : Step ℕ → Me ℕ View → ℕ → Me ℕ View → Type 0
clears_withdrawn st m n m' = same m m' × (Timely m'.0 → (m'.0.ticket ≡ m.0.ticket) × (m'.0.phase ≡ AtTurn) × (m'.0.ended ≡ m'.0.ticket) × (m'.0.counted ≡ 0) × SameRequest m.0 m'.0 × (m'.0.newcomers_seen ≡ m.0.newcomers_seen))

-- the lock word told the caller this, in no earlier epoch
abbrev pub Told : ℕ → View → View → Type 0
Told lock_word v w = (w.door ≡ 1 + shut_of lock_word) × (w.knows_shut ≡ shut_of lock_word) × (v.epoch ≤ w.epoch)

abbrev pub barges : Step ℕ → Me ℕ View → ℕ → Me ℕ View → Type 0
barges st m n m' = more m m' × (Timely m'.0 → (n ≡ st.first → IsInside m'.0 × IsNewcomer m'.0 × (m.0.newcomers_seen < m'.0.newcomer_number) × ServedOpen m'.0 × (m.0.epoch ≤ m'.0.epoch) × TakesLockWord m.0 m'.0) × (n ≢ st.first → IsIdle m'.0 × SameInside m.0 m'.0))

abbrev pub takes_lock_word : Step ℕ → Me ℕ View → ℕ → Me ℕ View → Type 0
takes_lock_word st m n m' = more m m' × SameNewcomer m.0 m'.0 × (Timely m'.0 → (m'.0.ticket ≡ m.0.ticket) × (m'.0.newcomers_at_draw ≡ m.0.newcomers_at_draw) × (m'.0.first_pending ≡ m.0.first_pending) × (m'.0.ended ≡ m.0.ended) × (m'.0.counted ≡ 0) × (n ≡ st.first → (m'.0.phase ≡ HeadInside) × (m'.0.inside ≡ 1) × IsOvertakenInBounds m'.0 × Told n m.0 m'.0 × TakesLockWord m.0 m'.0) × (n ≢ st.first → (m'.0.phase ≡ AtTurn) × SameSleepAtLockWord m.0 m'.0 × SameInside m.0 m'.0))

abbrev pub leaves : Step ℕ → Me ℕ View → ℕ → Me ℕ View → Type 0
leaves st m n m' = more m m' × SameNewcomer m.0 m'.0 × SameKnown m.0 m'.0 × (m'.0.last_take ≡ m.0.last_take) × (Timely m'.0 → (m.0.takes_seen ≤ m'.0.last_take) × (n ≡ st.first → IsOutside m'.0 × (asleep_of n ≡ 0 → LeftQuietly m'.0) × IsNotServed m'.0) × (n ≢ st.first → IsInside m'.0 × (m'.0.door ≡ m.0.door)))

abbrev pub checks_open : Step ℕ → Me ℕ View → ℕ → Me ℕ View → Type 0
checks_open st m n m' = more m m' × Kept m.0 m'.0 × SameSleepAtLockWord m.0 m'.0 × (Timely m'.0 → Told n m.0 m'.0) × SameNewcomersSeen m.0 m'.0

abbrev pub shuts : Step ℕ → Me ℕ View → ℕ → Me ℕ View → Type 0
shuts st m n m' = more m m' × Kept m.0 m'.0 × SameSleepAtLockWord m.0 m'.0 × ServedShut m'.0 × KnowsShut m'.0 × (m'.0.epoch ≡ m.0.epoch) × SameNewcomersSeen m.0 m'.0

abbrev pub reopens : Step ℕ → Me ℕ View → ℕ → Me ℕ View → Type 0
reopens st m n m' = more m m' × Kept m.0 m'.0 × SameSleepAtLockWord m.0 m'.0 × ServedOpen m'.0 × (m'.0.epoch ≡ m.0.epoch + 1)

abbrev pub announces_head_sleep : Step ℕ → Me ℕ View → ℕ → Me ℕ View → Type 0
announces_head_sleep st m n m' = more m m' × Kept m.0 m'.0 × SameKnown m.0 m'.0 × (m'.0.door ≡ m.0.door) × (n ≡ st.first → SleepsAtLockWord m'.0) × (Timely m'.0 → n ≡ st.first → (m.0.takes_seen ≤ m'.0.slept_in_take) × (m'.0.takes_seen ≡ m'.0.slept_in_take))

-- the step tells only what it found
abbrev pub reads_lock_word : Step ℕ → Me ℕ View → ℕ → Me ℕ View → Type 0
reads_lock_word st m n m' = (m'.1 ≡ m.1) × OnlyLooks m.0 m'.0

abbrev pub requests_handoff : Step ℕ → Me ℕ View → ℕ → Me ℕ View → Type 0
requests_handoff st m n m' = (m'.1 ≡ m.1) × OnlyLooks m.0 m'.0
