-- What each call on a lock guarantees for each of the call's answers. `was` and `now` are the ticket before and after
-- the call. The definitions in this file were made for this project; none is taken from the literature.
use Rattle.std.specs.Prelude.{◌≡◌, ◌≢◌, ℕ, ◌<◌, ◌≤◌, ◌+◌, ◌*◌, ◌/◌, ◌%◌, ◌⊎◌, true, false, max, [], ◌∷◌}
use Rattle.std.specs.declared.option.Option.{Option}
use Rattle.std.specs.declared.option.Option.TheVariants.{Some}
use Rattle.atomic_table.specs.declared.shared.Seat.{Seat}
use Rattle.lock_core.specs.declared.view.View.{View}
use Rattle.lock_core.specs.Layout.{lock_word_at, tail_at, cell_at, to_go, count_of, asleep_of, state_of, withdrawal_window, max_sleepers, max_passed, max_barging_limit}
use Rattle.lock_core.specs.Looks.{Found, FoundChanged, FoundNext, FoundTailMoved, IsHeldAnew, IsLeftAs, IsNoEntry}
use Rattle.lock_core.specs.Looks as looks
use Rattle.lock_core.specs.Views.{Timely, view_of, HasEnded, IsNewcomer, IsOvertakenInBounds, GrantedToNobodyAsleep, GrantedAfter, LeftQuietly, SameTurn, SleepsAtLockWord}
use Rattle.qolb_locks.specs.declared.answer.Answer.{Answer}
use Rattle.qolb_locks.specs.declared.answer.Answer.TheVariants as answer
use Rattle.qolb_locks.specs.declared.lock.Lock.{Lock}
use Rattle.qolb_locks.specs.declared.ticket.Ticket.{Ticket}
use Rattle.qolb_locks.specs.declared.ticket.State.TheVariants as state
use Rattle.qolb_locks.specs.Tickets.{Is, IsWithin, Has, Knows, IsStrict, IsBarging}

-- a lock with this barging limit, and this label
abbrev pub IsOpen : Option Lock → ℕ → ℕ → Type 0
IsOpen lock barging_limit label = (l : Lock) × (lock ≡ Some l) × (l.barging_limit ≡ max barging_limit 1) × (l.label ≡ label)

-- what `open` promises by its answer
abbrev pub Opens : ℕ → ℕ → Option Lock → Answer → Type 0
Opens barging_limit label lock answer.Done = IsOpen lock barging_limit label × (barging_limit ≤ max_barging_limit) × (label ≢ 0)
Opens barging_limit label lock answer.BadBargingLimit = max_barging_limit < barging_limit
Opens barging_limit label lock answer.Misuse = label ≡ 0
Opens barging_limit label lock answer.NoMemory = (barging_limit ≤ max_barging_limit) × (label ≢ 0)
Opens barging_limit label lock _ = ⊥

-- the call was not allowed, and nothing changed
abbrev pub IsMisuse : Ticket → Ticket → Answer → Type 0
IsMisuse was now a = (a ≡ answer.Misuse) × (now ≡ was)

-- What a call may change of its ticket, by its answer. It may always change the ticket's state and what the caller
-- knows; this definition allows nothing else, and each following one allows what its comment names.
abbrev pub OnlyState : Ticket → Ticket → Type 0
OnlyState was now = now ≡ record was { state = now.state; claim = now.claim }

-- the request, the label of its lock, and the rounds to go if the request waits or is too far away
abbrev pub OnlyRequest : Ticket → Ticket → Answer → Type 0
OnlyRequest was now answer.Granted = now ≡ record was { number = now.number; label = now.label; state = now.state; claim = now.claim }
OnlyRequest was now answer.Closed = now ≡ record was { number = now.number; label = now.label; state = now.state; claim = now.claim }
OnlyRequest was now answer.Waiting = now ≡ record was { number = now.number; rounds = now.rounds; label = now.label; state = now.state; claim = now.claim }
OnlyRequest was now answer.Far = now ≡ record was { rounds = now.rounds; label = now.label; claim = now.claim }
OnlyRequest was now answer.Busy = now ≡ record was { label = now.label; claim = now.claim }
OnlyRequest was now _ = now ≡ was

-- the rounds to go if the request waits
abbrev pub OnlyRounds : Ticket → Ticket → Answer → Type 0
OnlyRounds was now answer.Granted = OnlyState was now
OnlyRounds was now answer.Waiting = now ≡ record was { rounds = now.rounds; state = now.state; claim = now.claim }
OnlyRounds was now _ = now ≡ was

-- the rounds to go if the request waits, and the word to sleep at if the caller may sleep
abbrev pub OnlySleep : Ticket → Ticket → Answer → Type 0
OnlySleep was now answer.Granted = OnlyState was now
OnlySleep was now answer.Asleep = now ≡ record was { rounds = now.rounds; word = now.word; state = now.state; claim = now.claim }
OnlySleep was now answer.Waiting = now ≡ record was { rounds = now.rounds; claim = now.claim }
OnlySleep was now answer.Full = now ≡ record was { rounds = now.rounds; claim = now.claim }
OnlySleep was now _ = now ≡ was

-- the ticket that was granted last, and the sleepers at its cell if the next ticket is granted
abbrev pub OnlyGrant : Ticket → Ticket → Answer → Type 0
OnlyGrant was now answer.Done = now ≡ record was { number = now.number; sleepers = now.sleepers; state = now.state; claim = now.claim }
OnlyGrant was now answer.Unfinished = now ≡ record was { number = now.number; state = now.state; claim = now.claim }
OnlyGrant was now _ = now ≡ was

-- the lock word
abbrev pub OnlyLockWord : Ticket → Ticket → Type 0
OnlyLockWord was now = now ≡ record was { lock_word = now.lock_word; state = now.state; claim = now.claim }

-- the lock word, and the label of its lock
abbrev pub OnlyEntry : Ticket → Ticket → Type 0
OnlyEntry was now = now ≡ record was { lock_word = now.lock_word; label = now.label; state = now.state; claim = now.claim }

-- the lock word, and whether the queue head sleeps there if the caller left it
abbrev pub OnlyExit : Ticket → Ticket → Answer → Type 0
OnlyExit was now answer.Done = now ≡ record was { lock_word = now.lock_word; state = now.state; head_sleeps = now.head_sleeps; claim = now.claim }
OnlyExit was now answer.Busy = now ≡ record was { lock_word = now.lock_word; claim = now.claim }
OnlyExit was now _ = now ≡ was

-- a new seat, and the label of its lock
abbrev pub OnlySeat : Ticket → Ticket → Type 0
OnlySeat was now = now ≡ record was { label = now.label; claim = now.claim }

-- the claim holds of the seat of the ticket's caller: it says what the seat's last steps found
abbrev pub Shows : Ticket → (Seat ℕ View → Type 0) → Type 0
Shows t P = (seat : Seat ℕ View) × (t.claim.views ≡ view_of seat ∷ []) × P seat

-- what the caller knew before and knows now
abbrev pub Learns : Ticket → Ticket → (View → View → Type 0) → Type 0
Learns was now P = (v w : View) × (was.claim.views ≡ v ∷ []) × (now.claim.views ≡ w ∷ []) × (v.most_open ≤ w.most_open) × (Timely w → P v w)

-- a request is behind the ticket's last turn, and behind all that the ticket has heard of
abbrev pub IsBehind : View → View → Type 0
IsBehind v w = (v.ended ≤ w.first_pending) × (w.first_pending ≤ w.ticket) × (v.newcomers_seen ≤ w.newcomers_at_draw)

-- the claim holds if a call drew a ticket, or if a request is at its turn
abbrev pub IfDrawn : Answer → Type 0 → Type 0
IfDrawn answer.Granted P = P
IfDrawn answer.Waiting P = P
IfDrawn _ P = Unit {0}

abbrev pub IfGranted : Answer → Type 0 → Type 0
IfGranted answer.Granted P = P
IfGranted _ P = Unit {0}

-- no more newcomers overtook the request than the bound allows
abbrev pub InBounds : Lock → Ticket → Type 0
InBounds lock t = Knows lock t IsOvertakenInBounds

-- what `draw` promises, and `poll` and `retract_sleep` of a ticket that waits
abbrev pub Looks : Lock → Ticket → Answer → Type 0
Looks lock now answer.Granted = Has state.AtTurn lock now × InBounds lock now
Looks lock now answer.Waiting = Has state.Waiting lock now × (0 < now.rounds)
    × Shows now (Found (cell_at now.number) (λ n. to_go n now.number ≡ now.rounds))
Looks lock now _ = ⊥

-- what `draw_and_check` promises: if the ticket is at its turn at once, it is told of the lock word
abbrev pub DrawsAndChecks : Lock → Ticket → Answer → Type 0
DrawsAndChecks lock now answer.Granted = Has state.Served lock now × InBounds lock now
DrawsAndChecks lock now answer.Closed = Has state.ServedShut lock now × InBounds lock now
DrawsAndChecks lock now answer.Waiting = Has state.Waiting lock now × (0 < now.rounds)
    × Shows now (Found (cell_at now.number) (λ n. to_go n now.number ≡ now.rounds))
DrawsAndChecks lock now _ = ⊥

-- what `try_draw` promises
abbrev pub Tries : Lock → Ticket → Answer → Type 0
Tries lock now answer.Granted = Has state.AtTurn lock now × InBounds lock now
Tries lock now answer.Busy = Has state.Free lock now
    × Shows now (λ seat. FoundNext (λ rounds. 0 < rounds) seat ⊎ FoundTailMoved seat)
Tries lock now _ = ⊥

-- what `draw_near` promises: a request that it makes could be withdrawn
abbrev pub DrawsNear : Lock → Ticket → Answer → Type 0
DrawsNear lock now answer.Granted = Has state.AtTurn lock now × InBounds lock now
DrawsNear lock now answer.Waiting = Has state.Waiting lock now × (0 < now.rounds) × (now.rounds ≤ withdrawal_window)
    × Shows now (looks.FoundBefore (cell_at now.number) (λ n. to_go n now.number ≡ now.rounds))
DrawsNear lock now answer.Far = Has state.Free lock now × (withdrawal_window < now.rounds)
    × Shows now (FoundNext (λ rounds. rounds ≡ now.rounds))
DrawsNear lock now answer.Busy = Has state.Free lock now × Shows now FoundTailMoved
DrawsNear lock now _ = ⊥

-- what `announce_sleep` promises, with the word at which to sleep
abbrev pub AnnouncesSleep : Lock → Ticket → Answer → Type 0
AnnouncesSleep lock now answer.Granted = Has state.AtTurn lock now × InBounds lock now
AnnouncesSleep lock now answer.Asleep = Has state.Asleep lock now × (0 < to_go now.word now.number) × (to_go now.word now.number ≡ now.rounds)
    × Shows now (looks.Leaves (cell_at now.number) (λ n. n ≡ now.word))
AnnouncesSleep lock now answer.Waiting = Has state.Waiting lock now × (0 < now.rounds)
    × Shows now (FoundChanged (cell_at now.number))
    × Shows now (Found (cell_at now.number) (λ n. to_go n now.number ≡ now.rounds))
AnnouncesSleep lock now answer.Full = Has state.Waiting lock now × (0 < now.rounds)
    × Shows now (Found (cell_at now.number) (λ n. (count_of n ≡ max_sleepers) × (to_go n now.number ≡ now.rounds)))
AnnouncesSleep lock now _ = ⊥

-- what `withdraw` promises: a request that is too far away stays as it is
abbrev pub Withdraws : Lock → Ticket → Ticket → Answer → Type 0
Withdraws lock was now answer.Withdrawn = Has state.Free lock now × Learns was now SameTurn
Withdraws lock was now answer.Granted = Has state.AtTurn lock now × InBounds lock now
Withdraws lock was now answer.Far = (withdrawal_window < was.rounds) × (now ≡ was)
Withdraws lock was now _ = ⊥

-- the caller granted the ticket after its own; if the count of sleepers there was 0, nobody slept
abbrev pub GrantsNext : Lock → Ticket → Type 0
GrantsNext lock now = Knows lock now (λ v. GrantedAfter now.number v × (now.sleepers ≡ 0 → GrantedToNobodyAsleep v))
    × Shows now (Found (cell_at (now.number + 1)) (λ n. count_of n ≡ now.sleepers))

-- what `release` promises: the ticket's request has ended, and a queue head that is inside stays inside
abbrev pub Releases : Lock → Ticket → Ticket → Answer → Type 0
Releases lock was now answer.Done = GrantsNext lock now × Learns was now HasEnded × Learns was now SameTurn
    × (Is state.HeadInside lock was → Has state.Inside lock now)
    × (Is state.HeadInsideShut lock was → Has state.InsideShut lock now)
    × (was.state < 7 → Has state.Free lock now)
Releases lock was now answer.Unfinished = (Is state.HeadInside lock was → Has state.HeadInside lock now)
    × (Is state.HeadInsideShut lock was → Has state.HeadInsideShut lock now)
    × (was.state < 7 → Has state.Ending lock now)
    × (now.number ≡ (was.number + max_passed) % 18446744073709551616) × Learns was now SameTurn
Releases lock was now _ = ⊥

-- a ticket at its turn in a strict lock, told of the lock word or not
abbrev pub IsAtStrictTurn : Lock → Ticket → Type 0
IsAtStrictTurn lock t = IsStrict lock × IsWithin 3 5 lock t

-- what `check_open` promises
abbrev pub ChecksOpen : Lock → Ticket → Answer → Type 0
ChecksOpen lock now answer.Granted = Has state.Served lock now
ChecksOpen lock now answer.Closed = Has state.ServedShut lock now
ChecksOpen lock now _ = ⊥

-- the caller's last step found the lock word that the ticket has, or left that word there
abbrev pub HasFoundLockWord : Ticket → Type 0
HasFoundLockWord t = Shows t (Found lock_word_at (λ n. n ≡ t.lock_word))

abbrev pub HasLeftLockWord : Ticket → Type 0
HasLeftLockWord t = Shows t (looks.Leaves lock_word_at (λ n. n ≡ t.lock_word))

-- what `barge` promises with this guess of the lock word
abbrev pub Barges : Lock → ℕ → Ticket → Answer → Type 0
Barges lock guess now answer.Granted = Has state.Inside lock now × Knows lock now IsNewcomer
    × Shows now (looks.Changes lock_word_at looks.IsHeldByNewcomer)
    × Shows now (Found lock_word_at (λ n. n ≡ guess)) × HasLeftLockWord now
Barges lock guess now answer.Busy = Has state.Free lock now
    × (IsNoEntry guess ⊎ (now.lock_word ≢ guess)) × HasFoundLockWord now
Barges lock guess now _ = ⊥

-- the ticket is that of the queue head of a barging lock
abbrev pub IsHead : Lock → Ticket → Type 0
IsHead lock t = IsBarging lock × Is state.AtTurn lock t

-- what `take_lock_word` promises: the queue head is inside, and must release its turn of the queue
abbrev pub TakesAsHead : Lock → Ticket → Answer → Type 0
TakesAsHead lock now answer.Granted = Has state.HeadInside lock now × InBounds lock now
    × Shows now (looks.Changes lock_word_at IsHeldAnew) × HasLeftLockWord now
TakesAsHead lock now answer.Closed = Has state.HeadInsideShut lock now × InBounds lock now
    × Shows now (looks.Changes lock_word_at IsHeldAnew) × HasLeftLockWord now
TakesAsHead lock now answer.Waiting = Has state.AtTurn lock now × HasFoundLockWord now
    × Shows now (λ seat. Found lock_word_at (λ n. state_of n ≡ 1) seat ⊎ FoundChanged lock_word_at seat)
TakesAsHead lock now _ = ⊥

-- what `leave_lock_word` promises: if it says that no queue head sleeps, none does
abbrev pub Leaves : Lock → Ticket → Ticket → Answer → Type 0
Leaves lock was now answer.Done = Has state.Free lock now × Knows lock now (λ v. (v.inside ≡ 0) × (now.head_sleeps ≡ false → LeftQuietly v))
    × Shows now (Found lock_word_at (λ n. n ≡ was.lock_word)) × Shows now (looks.Leaves lock_word_at (IsLeftAs lock.barging_limit was.lock_word))
    × Shows now (looks.Changes lock_word_at looks.IsLeftClean) × (now.head_sleeps ≡ true → asleep_of was.lock_word ≡ 1)
    × (now.lock_word ≡ was.lock_word / 16 * 16)
Leaves lock was now answer.Busy = (Is state.Inside lock was → Has state.Inside lock now) × (Is state.InsideShut lock was → Has state.InsideShut lock now)
    × (now.lock_word ≢ was.lock_word) × HasFoundLockWord now
Leaves lock was now _ = ⊥

-- what `shut` requires: the ticket is served
abbrev pub IsServed : Lock → Ticket → Type 0
IsServed lock t = Is state.Served lock t ⊎ Is state.HeadInside lock t ⊎ Is state.Inside lock t

abbrev pub Shuts : Lock → Ticket → Ticket → Answer → Type 0
Shuts lock was now answer.Done = (now.lock_word ≡ (was.lock_word + 16) % 18446744073709551616)
    × (Is state.Served lock was → Has state.ServedShut lock now)
    × (Is state.HeadInside lock was → Has state.HeadInsideShut lock now)
    × (Is state.Inside lock was → Has state.InsideShut lock now)
Shuts lock was now _ = ⊥

-- what `reopen` requires: the ticket has a turn of the queue, and was told that the lock is shut
abbrev pub IsToldShut : Lock → Ticket → Type 0
IsToldShut lock t = Is state.ServedShut lock t ⊎ Is state.HeadInsideShut lock t

abbrev pub Reopens : Lock → Ticket → Ticket → Answer → Type 0
Reopens lock was now answer.Granted = (now.lock_word ≡ (was.lock_word + 18446744073709551600) % 18446744073709551616)
    × (Is state.ServedShut lock was → Has state.Served lock now)
    × (Is state.HeadInsideShut lock was → Has state.HeadInside lock now)
Reopens lock was now answer.Busy = (now.lock_word ≡ was.lock_word)
    × (Is state.ServedShut lock was → Has state.ServedShut lock now)
    × (Is state.HeadInsideShut lock was → Has state.HeadInsideShut lock now)
    × Shows now (Found tail_at (λ n. n ≢ (was.number + 1) % 18446744073709551616))
Reopens lock was now _ = ⊥

-- what a ticket learns changes neither its number nor its label
abbrev pub SameTicket : Ticket → Ticket → Type 0
SameTicket was now = (now.number ≡ was.number) × (now.rounds ≡ was.rounds) × (now.label ≡ was.label) × (now.state ≡ was.state)

-- what `request_handoff` promises
abbrev pub RequestsHandoff : Lock → Ticket → Answer → Type 0
RequestsHandoff lock now answer.Done = Has state.AtTurn lock now × Shows now (looks.Changes lock_word_at looks.IsRequested)
RequestsHandoff lock now answer.Busy = Has state.AtTurn lock now × Shows now (FoundChanged lock_word_at)
RequestsHandoff lock now _ = ⊥

-- the lock word is held, and says that the queue head sleeps
abbrev pub HeldWithSleeper : ℕ → Type 0
HeldWithSleeper lock_word = (asleep_of lock_word ≡ 1) × (state_of lock_word ≡ 1)

-- what `announce_head_sleep` promises, with the word at which to sleep
abbrev pub SleepsAsHead : Lock → Ticket → Ticket → Answer → Type 0
SleepsAsHead lock was now answer.Asleep = Has state.AtTurn lock now × Knows lock now SleepsAtLockWord × HeldWithSleeper now.lock_word
    × HasLeftLockWord now × Shows now (looks.Changes lock_word_at looks.IsNotedAsleep)
SleepsAsHead lock was now answer.Waiting = Has state.AtTurn lock now × (now.lock_word ≡ was.lock_word)
    × Shows now (λ seat. Found lock_word_at (λ n. state_of n ≢ 1) seat ⊎ FoundChanged lock_word_at seat)
SleepsAsHead lock was now _ = ⊥

-- the ticket keeps its seat, its caller takes at most k atomic steps, and the load that it has seen does not decrease
abbrev pub StepsUpTo : ℕ → Ticket → Ticket → Type 0
StepsUpTo k was now = (v w : View) × (was.claim.views ≡ v ∷ []) × (now.claim.views ≡ w ∷ []) × (w.looks.steps ≤ v.looks.steps + k) × (v.most_open ≤ w.most_open)

-- the ticket has a new seat, whose caller has taken at most k atomic steps in all
abbrev pub StepsFirst : ℕ → Ticket → Type 0
StepsFirst k now = (w : View) × (now.claim.views ≡ w ∷ []) × (w.looks.steps ≤ k)
