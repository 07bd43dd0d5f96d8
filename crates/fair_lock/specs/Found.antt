-- What a thread's last atomic steps found in the lock's words, if the lock was not free.
use Rattle.std.specs.Prelude.{◌≡◌, ◌≢◌, ℕ, ◌<◌, ◌≤◌, ◌⊎◌}
use Rattle.atomic_table.specs.declared.shared.Seat.{Seat}
use Rattle.lock_core.specs.declared.view.View.{View}
use Rattle.lock_core.specs.Layout.{lock_word_at, tail_at, cell_at, count_of, state_of, to_go, max_tickets, max_sleepers}
use Rattle.lock_core.specs.Looks.{Changes, Found, FoundChanged, FoundNext, FoundTailMoved, IsNoEntry, IsNotedAsleep}

-- The lock was taken: the next ticket has rounds to go, another caller drew it, or no ticket is left; or the lock word
-- is held, or has changed.
abbrev pub ShowsTaken : {T : Type 0} → Seat T View → Type 0
ShowsTaken seat = FoundNext (λ rounds. 0 < rounds) seat ⊎ FoundTailMoved seat ⊎ Found tail_at (λ n. max_tickets ≤ n) seat ⊎ Found lock_word_at (λ n. state_of n ≡ 1) seat ⊎ FoundChanged lock_word_at seat

-- This ticket has rounds to go.
abbrev pub FoundWaiting : {T : Type 0} → ℕ → Seat T View → Type 0
FoundWaiting ticket seat = Found (cell_at ticket) (λ n. 0 < to_go n ticket) seat

-- The cell of this ticket counts as many sleepers as it can, or has changed.
abbrev pub FoundNoPlace : {T : Type 0} → ℕ → Seat T View → Type 0
FoundNoPlace ticket seat = Found (cell_at ticket) (λ n. count_of n ≡ max_sleepers) seat ⊎ FoundChanged (cell_at ticket) seat

-- No thread holds the lock word, or the word has changed.
abbrev pub FoundNotHeld : {T : Type 0} → Seat T View → Type 0
FoundNotHeld seat = Found lock_word_at (λ n. state_of n ≢ 1) seat ⊎ FoundChanged lock_word_at seat

-- The call noted the queue head's sleep at the lock word, or found no reason to sleep there.
abbrev pub NotedOrNotHeld : {T : Type 0} → Seat T View → Type 0
NotedOrNotHeld seat = Changes lock_word_at IsNotedAsleep seat ⊎ FoundNotHeld seat

-- The thread tried to barge, but the lock word let no thread barge, or has changed.
abbrev pub ShowsNoEntry : {T : Type 0} → Seat T View → Type 0
ShowsNoEntry seat = Found lock_word_at IsNoEntry seat ⊎ FoundChanged lock_word_at seat
