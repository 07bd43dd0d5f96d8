-- Definitions for the theorems of `src/meets.rt`, which state what two callers know about each other.
use Rattle.std.specs.Prelude.{◌≡◌, ◌≢◌, ℕ, ◌<◌, ◌≤◌, ◌⊎◌, max}
use Rattle.atomic_table.specs.Table.{Step, Me}
use Rattle.lock_core.specs.declared.view.View.{View}
use Rattle.lock_core.specs.declared.view.Phase.TheVariants.{Idle, Asleep, Impossible}
use Rattle.lock_core.specs.Views.{Awaits, HasTurn, Timely, initial_view}

-- it is served: in a strict lock at its turn, in a barging lock inside
abbrev pub Served : View → Type 0
Served v = ((v.max_newcomers ≡ 0) × HasTurn v) ⊎ (v.inside ≡ 1)

-- the caller waits with its ticket, asleep or not
abbrev pub IsWaiting : View → Type 0
IsWaiting v = Awaits v.phase

-- the caller waits with a ticket that was drawn while the lock was open; or while it was shut
abbrev pub IsWaitingOpen : View → Type 0
IsWaitingOpen v = IsWaiting v × (v.drawn_open ≡ 1)

abbrev pub IsWaitingShut : View → Type 0
IsWaitingShut v = IsWaiting v × (v.drawn_open ≢ 1)

-- the caller announced its sleep, has not retracted it, and was not at its turn then
abbrev pub IsStillAsleep : View → Type 0
IsStillAsleep v = v.phase ≡ Asleep

-- the caller granted this ticket, and was told that nobody sleeps for it
abbrev pub GrantedToNobodyAsleepAt : ℕ → View → Type 0
GrantedToNobodyAsleepAt ticket v = (v.told_nobody ≡ 1) × (v.granted ≡ ticket)

-- the caller's last acquisition as a newcomer has the place that u's had
abbrev pub HadPlaceOf : View → View → Type 0
HadPlaceOf u v = (0 < v.newcomer_number) × (v.heads_before ≡ u.heads_before) × (v.place_after_head ≡ u.place_after_head)

-- w knows of each ended request and each acquisition that v knew of
abbrev pub HasHeard : View → View → Type 0
HasHeard v w = (v.ended ≤ w.ended) × (v.newcomers_seen ≤ w.newcomers_seen) × (v.takes_seen ≤ w.takes_seen)

-- the view of two callers that cannot meet, and what a step tells of them
abbrev pub meet : View → View → View
meet v w = record (initial_view 0) { most_open = v.most_open; phase = Impossible }

abbrev pub tells_of_two : Step ℕ → Me ℕ View → ℕ → Me ℕ View → Type 0
tells_of_two st m n m' = (m'.1 ≡ m.1) × (Timely m'.0 → ⊥)

-- what a caller tells another caller: the load, the ended requests, the acquisitions and the closing that it knows of
abbrev pub told_of : View → View
told_of v = record (initial_view v.max_newcomers) { most_open = v.most_open; ended = v.ended; newcomers_seen = v.newcomers_seen; takes_seen = v.takes_seen; knows_shut = v.knows_shut; epoch = v.epoch }

-- what the other caller knows afterwards
abbrev pub learns : View → View → View
learns v w = record v { most_open = max v.most_open w.most_open; ended = max v.ended w.ended; rounds_seen = 0; ticket = 0; phase = Idle; counted = 0; newcomers_at_draw = 0; first_pending = 0; newcomers_seen = max v.newcomers_seen w.newcomers_seen; takes_seen = max v.takes_seen w.takes_seen; inside = 0; door = 0; nobody_behind = 0 }

-- a caller at its turn learns of the requests that another caller knows to have ended
abbrev pub learns_ended : View → View → View
learns_ended v w = record v { ended = max v.ended w.ended; counted = 0 }

-- nothing else changes, except the load that the caller knows of
abbrev pub HasLearnedEnded : View → View → View → Type 0
HasLearnedEnded v w u = u ≡ record v { ended = max v.ended w.ended; counted = 0; most_open = u.most_open }

-- each request that the caller knows to have ended is before its own
abbrev pub tells_order : Step ℕ → Me ℕ View → ℕ → Me ℕ View → Type 0
tells_order st m n m' = (m'.1 ≡ m.1) × (m'.0 ≡ record m.0 { counted = 0; most_open = m'.0.most_open }) × (m.0.most_open ≤ m'.0.most_open) × (Timely m'.0 → m.0.ended ≤ m.0.ticket)
