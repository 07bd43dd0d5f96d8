-- What a caller's last atomic steps found. With these definitions, the contract of a call that gives up can state what
-- the call found in a word.
use Rattle.std.specs.Prelude.{◌≡◌, ◌≢◌, ℕ, Bool, true, false, ◌+◌, ◌*◌, ◌/◌, ◌%◌, ◌<◌, ◌≤◌, ◌⊎◌}
use Rattle.atomic_table.specs.Table.{Step}
use Rattle.atomic_table.specs.declared.shared.Seat.{Seat}
use Rattle.lock_core.specs.declared.view.View.{View}
use Rattle.lock_core.specs.declared.view.Looks.{Looks}
use Rattle.lock_core.specs.Layout.{cell_at, tail_at, lock_word_at, to_go, state_of, shut_of, asleep_of, handoff_of, came_of}
use Rattle.lock_core.specs.Views.{Timely, view_of}

-- the looks after a step that found `found` in its word and left `left` there
abbrev pub looked : Step ℕ → ℕ → ℕ → Looks → Looks
looked st found left l = record { steps = l.steps + 1; word = st.word; found = found; left = left; word_before = l.word; found_before = l.found }

-- the seat has taken k more atomic steps
abbrev pub StepsLater : {T : Type 0} → ℕ → Seat T View → Seat T View → Type 0
StepsLater k old new = (view_of new).looks.steps ≡ (view_of old).looks.steps + k

-- the seat has taken one more atomic step, and its last step is now the step before
abbrev pub LooksOnce : {T : Type 0} → Seat T View → Seat T View → Type 0
LooksOnce old new = StepsLater 1 old new × ((view_of new).looks.word_before ≡ (view_of old).looks.word) × ((view_of new).looks.found_before ≡ (view_of old).looks.found)

-- the seat has taken at most k more atomic steps
abbrev pub StepsAtMost : {T : Type 0} → ℕ → Seat T View → Seat T View → Type 0
StepsAtMost k old new = (view_of new).looks.steps ≤ (view_of old).looks.steps + k

-- the caller's last step found this in the word
abbrev pub Found : {T : Type 0} → ℕ → (ℕ → Type 0) → Seat T View → Type 0
Found word P seat = ((view_of seat).looks.word ≡ word) × P (view_of seat).looks.found

-- the caller's last step left this in the word
abbrev pub Leaves : {T : Type 0} → ℕ → (ℕ → Type 0) → Seat T View → Type 0
Leaves word P seat = ((view_of seat).looks.word ≡ word) × P (view_of seat).looks.left

-- the caller's last step but one found this in the word
abbrev pub FoundBefore : {T : Type 0} → ℕ → (ℕ → Type 0) → Seat T View → Type 0
FoundBefore word P seat = ((view_of seat).looks.word_before ≡ word) × P (view_of seat).looks.found_before

-- the caller's last step changed the word in this way, from what it found to what it left
abbrev pub Changes : {T : Type 0} → ℕ → (ℕ → ℕ → Type 0) → Seat T View → Type 0
Changes word R seat = ((view_of seat).looks.word ≡ word) × R (view_of seat).looks.found (view_of seat).looks.left

-- the caller's last two steps found different values in the word
abbrev pub FoundChanged : {T : Type 0} → ℕ → Seat T View → Type 0
FoundChanged word seat = Found word (λ n. n ≢ (view_of seat).looks.found_before) seat × ((view_of seat).looks.word_before ≡ word)

-- the caller's last steps found the tail, and a number of rounds to go for the next ticket that satisfies P
abbrev pub FoundNext : {T : Type 0} → (ℕ → Type 0) → Seat T View → Type 0
FoundNext P seat = Found (cell_at (view_of seat).looks.found_before) (λ n. P (to_go n (view_of seat).looks.found_before)) seat × ((view_of seat).looks.word_before ≡ tail_at)

-- the caller's last step found that the tail is no longer what the caller had read
abbrev pub FoundTailMoved : {T : Type 0} → Seat T View → Type 0
FoundTailMoved seat = ((view_of seat).looks.word ≡ tail_at) × (Timely (view_of seat) → (view_of seat).looks.found ≢ (view_of seat).tail_seen % 18446744073709551616)

-- the next ticket had rounds to go, or another caller drew it
abbrev pub FoundBusy : {T : Type 0} → Seat T View → Seat T View → Type 0
FoundBusy old new = (StepsLater 2 old new × FoundNext (λ rounds. 0 < rounds) new) ⊎ (StepsLater 3 old new × FoundTailMoved new)

-- no thread may barge at this value of the lock word, because the word is held, reserved, or shut
abbrev pub IsNoEntry : ℕ → Type 0
IsNoEntry lock_word = 0 < state_of lock_word + shut_of lock_word

-- the lock word is held, counts this number of newcomers, and has a handoff requested or not
abbrev pub IsSeenHeld : ℕ → Bool → ℕ → Type 0
IsSeenHeld newcomers requested lock_word = (state_of lock_word ≡ 1) × (came_of lock_word ≡ newcomers) × (requested ≡ true → handoff_of lock_word ≡ 1) × (requested ≡ false → handoff_of lock_word ≡ 0)

-- the lock word is free for barging threads, and counts this number of newcomers
abbrev pub IsSeenFree : ℕ → ℕ → Type 0
IsSeenFree newcomers lock_word = (state_of lock_word ≡ 0) × (shut_of lock_word ≡ 0) × (came_of lock_word ≡ newcomers)

-- nobody is inside, and no thread may barge at this value of the lock word
abbrev pub IsForHead : ℕ → Type 0
IsForHead lock_word = (state_of lock_word ≢ 1) × IsNoEntry lock_word

-- no thread may barge at the lock word's value, or the word has changed
abbrev pub FoundNotFree : {T : Type 0} → Seat T View → Seat T View → Type 0
FoundNotFree old new = (StepsLater 1 old new × Found lock_word_at IsNoEntry new) ⊎ (StepsLater 2 old new × FoundChanged lock_word_at new)

-- the lock word after a thread barged: it is held, and counts one newcomer more
abbrev pub IsHeldByNewcomer : ℕ → ℕ → Type 0
IsHeldByNewcomer found left = left ≡ (found + 36) % 18446744073709551616

-- the lock word after the queue head took it: it is held, counts no newcomer, has nothing requested, and is shut if it
-- was
abbrev pub IsHeldAnew : ℕ → ℕ → Type 0
IsHeldAnew found left = left ≡ shut_of found * 16 + 4

-- the lock word after it was left: nothing is requested and nobody is asleep; it is shut if it was, and counts as many
-- newcomers
abbrev pub IsLeftClean : ℕ → ℕ → Type 0
IsLeftClean found left = (handoff_of left ≡ 0) × (asleep_of left ≡ 0) × (shut_of left ≡ shut_of found) × (came_of left ≡ came_of found)

-- the lock word with the handoff requested, and otherwise unchanged
abbrev pub IsRequested : ℕ → ℕ → Type 0
IsRequested found left = left ≡ found / 2 * 2 + 1

-- the lock word with the queue head's sleep noted, and otherwise unchanged
abbrev pub IsNotedAsleep : ℕ → ℕ → Type 0
IsNotedAsleep found left = left ≡ found / 4 * 4 + 2 + found % 2

-- the lock word after it was left: it is reserved if a handoff was requested or if as many callers were inside as the
-- barging limit allows, and otherwise free
abbrev pub IsLeftAs : ℕ → ℕ → ℕ → Type 0
IsLeftAs barging_limit found left = (handoff_of found ≡ 1 → state_of left ≡ 2) × (barging_limit ≤ came_of found + 1 → state_of left ≡ 2) × (handoff_of found ≡ 0 → came_of found + 1 < barging_limit → state_of left ≡ 0)

-- the caller's last step left the lock word in the state that `IsLeftAs` gives for the word that it found there
abbrev pub LeavesAsFound : {T : Type 0} → ℕ → Seat T View → Type 0
LeavesAsFound barging_limit seat = Leaves lock_word_at (IsLeftAs barging_limit (view_of seat).looks.found) seat
