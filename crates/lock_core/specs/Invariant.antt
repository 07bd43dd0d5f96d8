-- The invariant of a lock, which relates the lock's words to what each caller knows.
use Rattle.std.specs.Prelude.{◌≡◌, ◌≢◌, ℕ, ◌+◌, ◌*◌, ◌/◌, ◌%◌, ◌<◌, ◌≤◌, ◌⊎◌, List, [], ◌∷◌, length, slice_index, ◌==◌}
use Rattle.std.specs.Int.{bit_at}
use mathlib.Core.Option.{some}
use lib.ListN.{get_elem?}
use prog.Atomic.{either}
use Rattle.atomic_table.specs.Table.{State}
use Rattle.lock_core.specs.declared.view.View.{View}
use Rattle.lock_core.specs.declared.view.Phase.{Phase}
use Rattle.lock_core.specs.declared.view.Phase.TheVariants.{Idle, Queued, Asleep, AtTurn, Passing, HeadInside, Impossible}
use Rattle.lock_core.specs.Layout.{max_sleepers, max_tickets, withdrawal_window, asleep_of, bit_of, came_of, cell_at, count_of, lock_word_at, rounds, rounds_of, shut_of, state_of, tail_at}
use Rattle.lock_core.specs.Views.{Awaits, max_open}

-- the sleepers of a cell are the counted seats whose tickets belong to it
abbrev pub share : ℕ → View → ℕ
share c v = either (v.ticket % 4 == c) v.counted 0

abbrev pub tally : ℕ → List View → ℕ
tally c [] = 0
tally c (v ∷ vs) = share c v + tally c vs

-- What the invariant knows of a lock. Its numbers are, in the order of the fields:
-- - of the queue: the ticket at its turn, and 1 if that ticket's caller is inside as the queue head;
-- - of the lock word: how often queue heads took it, the newcomers since the last queue head and in all, the word, the
--   seat that is inside, and how often the lock was reopened;
-- - of each ticket: 1 if it is withdrawn, 1 if it was drawn while the lock was open, and 1 if its grant found nobody
--   asleep;
-- - of each queue head: the newcomers before it;
-- - of each take of the lock word, by newcomers and queue heads: 1 if the caller that left it was told that no queue
--   head sleeps.
pub record Ghost : Type 0 where
  pub turn : ℕ
  pub head_inside : ℕ
  pub heads : ℕ
  pub since_head : ℕ
  pub newcomers : ℕ
  pub lock_word : ℕ
  pub who_is_inside : ℕ
  pub epoch : ℕ
  pub withdrawn : ℕ → ℕ
  pub drawn_open : ℕ → ℕ
  pub nobody_asleep : ℕ → ℕ
  pub newcomers_before : ℕ → ℕ
  pub left_quietly : ℕ → ℕ

-- at most c newcomers overtook the caller for each ticket whose turn ended since the caller drew its own, and besides
-- those since the last queue head
abbrev pub Overtaking : ℕ → Ghost → View → Type 0
Overtaking c g v = record { came : v.first_pending ≤ g.turn + g.head_inside; overtaken : g.newcomers + c * v.first_pending ≤ v.newcomers_at_draw + c * (g.turn + g.head_inside) + g.since_head }

-- the caller waits: its request is not withdrawn, and if its ticket is at its turn, it is not inside
abbrev pub Waiter : ℕ → Ghost → View → Type 0
Waiter c g v = record { unmarked : g.withdrawn v.ticket ≡ 0; overtaking : Overtaking c g v; at_turn : v.ticket ≡ g.turn → g.head_inside ≡ 0 }

-- the caller's ticket is at its turn, and withdrawn or not
abbrev pub Holder : ℕ → Ghost → View → ℕ → Type 0
Holder c g v bit = record { turn : v.ticket ≡ g.turn; mark : g.withdrawn v.ticket ≡ bit; overtaking : Overtaking c g v }

-- the caller is inside
abbrev pub Occupant : ℕ → Ghost → ℕ → Type 0
Occupant c g id = (0 < c) × (state_of g.lock_word ≡ 1) × (g.who_is_inside ≡ id)

-- the number of the last take of the lock word
abbrev pub takes_of : Ghost → ℕ
takes_of g = g.newcomers + g.heads

-- what holds of a seat's view in each phase
abbrev pub Place : ℕ → Ghost → View → Phase → Type 0
Place c g v Idle = Unit {0}
Place c g v Queued = Waiter c g v
Place c g v Asleep = Waiter c g v × (v.counted ≡ 1) × (g.nobody_asleep v.ticket ≡ 0)
Place c g v AtTurn = Holder c g v 0 × (g.head_inside ≡ 0)
Place c g v Passing = Holder c g v 1 × (g.head_inside ≡ 0)
Place c g v HeadInside = Holder c g v 0 × (g.head_inside ≡ 1)
Place c g v Impossible = ⊥

-- What a caller knows of the takes of the lock word: how many there were, its own last take, whether it left that
-- quietly, and that its sleep there is noted in the word.
abbrev pub Rests : Ghost → View → Type 0
Rests g v = record {
  takes_seen : v.takes_seen ≤ takes_of g;
  held : v.inside ≡ 1 → v.last_take ≡ takes_of g;
  lulls : v.left_quietly ≡ 1 → g.left_quietly v.last_take ≡ 1;
  sleeps_at_lock_word : v.sleeps_at_lock_word ≡ 1 → (v.slept_in_take ≤ takes_of g) × (g.left_quietly v.slept_in_take ≡ 0) × (v.slept_in_take ≡ takes_of g → state_of g.lock_word ≡ 1 → asleep_of g.lock_word ≡ 1);
}

-- What a caller knows of the lock word: its last acquisition as a newcomer is its own, whether it is inside, and its
-- takes. What it knows of a shut lock is true until a reopening.
abbrev pub AtLockWord : ℕ → (ℕ → ℕ) → Ghost → ℕ → View → Type 0
AtLockWord c who g id v = record {
  turn_of : 0 < v.newcomer_number → (v.newcomer_number ≤ g.newcomers) × (who v.newcomer_number ≡ id) × (v.newcomer_number ≡ g.newcomers_before v.heads_before + v.place_after_head) × (v.heads_before ≤ g.heads);
  occupant : v.inside ≡ 1 → Occupant c g id;
  rests : Rests g v;
  dated : v.epoch ≤ g.epoch;
  barrier : v.knows_shut ≡ 1 → v.epoch ≡ g.epoch → shut_of g.lock_word ≡ 1;
}

-- the caller is at its turn in a strict lock, or inside; this is called at the door
abbrev pub AtDoor : ℕ → ℕ → Phase → Type 0
AtDoor c inside p = ((c ≡ 0) × (p ≡ AtTurn)) ⊎ (inside ≡ 1)

-- the caller was told there whether the lock is open (1) or shut (2), and that is still true, because nobody else may
-- change it
abbrev pub Door : ℕ → Ghost → View → Phase → Type 0
Door c g v p = v.door ≢ 0 → (v.door ≡ 1 + shut_of g.lock_word) × (v.epoch ≡ g.epoch) × AtDoor c v.inside p

-- what the caller read of the tail; and the next ticket is at its turn, unless it was drawn since
abbrev pub Probe : ℕ → Ghost → View → Type 0
Probe drawn g v = record { probed : v.tail_seen ≤ drawn; next_is_at_turn : v.next_is_at_turn ≡ 1 → drawn ≡ v.tail_seen → g.turn ≡ drawn }

-- What a caller knows of its request: whether the lock was open when it drew its ticket, and in which epoch. A waiting
-- ticket that was drawn while the lock was open is of this epoch. If the caller was told that the lock is shut, and
-- read that nobody is behind it, each later ticket was drawn while the lock was shut.
abbrev pub AtDraw : ℕ → Ghost → View → Phase → Type 0
AtDraw drawn g v p = record {
  stamped : p ≢ Idle → v.drawn_open ≡ g.drawn_open v.ticket;
  early : v.drawn_in_epoch ≤ g.epoch;
  open_then : Awaits p → v.drawn_open ≡ 1 → v.drawn_in_epoch ≡ g.epoch;
  shut_then : Awaits p → v.drawn_open ≢ 1 → v.drawn_in_epoch ≡ g.epoch → shut_of g.lock_word ≡ 1;
  nobody_behind : v.nobody_behind ≡ 1 → v.door ≡ 2 → (t : ℕ) → v.ticket < t → t < drawn → g.drawn_open t ≡ 0;
}

-- what holds of a seat's view in every phase
pub record Fits (c drawn : ℕ) (owner who : ℕ → ℕ) (g : Ghost) (id : ℕ) (v : View) : Type 0 where
  pub knows : v.ended ≤ g.turn
  pub lowest : v.rounds_seen ≤ rounds g.turn v.ticket
  pub mine : v.phase ≢ Idle → (g.turn ≤ v.ticket) × (v.ticket < drawn) × (owner v.ticket ≡ id)
  pub place : Place c g v v.phase
  pub told_nobody : v.told_nobody ≡ 1 → (g.nobody_asleep v.granted ≡ 1) × (v.granted ≤ g.turn)
  pub lock_word : AtLockWord c who g id v
  pub door : Door c g v v.phase
  pub tail_seen : Probe drawn g v
  pub at_draw : AtDraw drawn g v v.phase

-- What the word of a ticket's cell says. Its bits mark the withdrawn requests of the next fifteen rounds.
abbrev pub Cell : Ghost → ℕ → ℕ → ℕ → Type 0
Cell g sleepers word t = record {
  high : rounds_of word ≡ rounds g.turn t % 1073741824;
  bits : g.turn ≤ t → t / 4 < rounds g.turn t + withdrawal_window → bit_at word (bit_of t) ≡ g.withdrawn t;
  spare : t / 4 ≡ rounds g.turn t + withdrawal_window → t % 4 ≢ g.turn % 4 → bit_at word (bit_of t) ≡ 0;
  count : count_of word ≡ sleepers;
}

-- no ticket is withdrawn beyond the window, or before it is drawn
abbrev pub Marks : ℕ → Ghost → Type 0
Marks drawn g = record {
  far : (t : ℕ) → rounds g.turn t + withdrawal_window ≤ t / 4 → g.withdrawn t ≡ 0;
  future : (t : ℕ) → drawn ≤ t → g.withdrawn t ≡ 0;
  unheard : (t : ℕ) → g.turn < t → g.nobody_asleep t ≡ 0;
}

-- the lock word counts the newcomers since the last queue head, and there are at most c of them
abbrev pub Counts : ℕ → Ghost → Type 0
Counts c g = record {
  bounded : g.since_head ≤ c;
  all : g.newcomers ≡ g.newcomers_before g.heads + g.since_head;
  tallied : g.since_head ≡ came_of g.lock_word;
  single : g.head_inside ≤ 1;
  small : c < 1073741824;
  room : 0 < c → state_of g.lock_word ≡ 0 → g.since_head + 1 ≤ c;
  awake : state_of g.lock_word ≡ 1 → g.left_quietly (takes_of g) ≡ 0;
  later : (n : ℕ) → takes_of g < n → g.left_quietly n ≡ 0;
}

-- what holds of a timely lock
pub record Granted (c drawn most : ℕ) (owner who : ℕ → ℕ) (g : Ghost) (words : List ℕ) (views : List View) : Type 0 where
  pub within : g.turn ≤ drawn
  pub few : drawn ≤ g.turn + most
  pub idle : drawn ≤ g.turn → g.head_inside ≡ 0
  pub marks : Marks drawn g
  pub counts : Counts c g
  pub crowd : (k : ℕ) → tally k views ≤ max_sleepers
  pub cells : (t : ℕ) → Cell g (tally (t % 4) views) (slice_index words (cell_at t)) t
  pub each : (id : ℕ) (v : View) → get_elem? views id ≡ some v → Fits c drawn owner who g id v

-- The invariant of a lock with at most c newcomers between two queue heads. It has the tickets drawn, the most requests
-- that were open at a time, who has each ticket and each newcomer's number, and what the words and the views say. If
-- the table has a slot, never more requests are open than `max_open`.
pub record Tickets (c : ℕ) (s : State ℕ View) : Type 0 where
  pub drawn : ℕ
  pub most_open : ℕ
  pub owner : ℕ → ℕ
  pub who : ℕ → ℕ
  pub g : Ghost
  pub tail : slice_index s.words tail_at ≡ drawn % 18446744073709551616
  pub lock_word : slice_index s.words lock_word_at ≡ g.lock_word
  pub wide : length s.words ≡ 21
  pub seen : (id : ℕ) (v : View) → get_elem? s.views id ≡ some v → v.most_open ≤ most_open
  pub heard : (id : ℕ) (v : View) → get_elem? s.views id ≡ some v → v.newcomers_seen ≤ g.newcomers
  pub granted : most_open ≤ max_open → Granted c drawn most_open owner who g s.words s.views
  pub guard : length s.homes ≡ 1 → (most_open ≤ max_open) × (drawn ≤ max_tickets)
