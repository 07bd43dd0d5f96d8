-- Definitions that contracts use to state what holds for each answer of a call.
use Rattle.std.specs.Prelude.{◌≡◌, ℕ, Bool, ◌<◌, ◌≤◌}
use Rattle.lock_core.specs.declared.opening.LockKind.{LockKind}
use Rattle.lock_core.specs.declared.opening.LockKind.TheVariants as kind
use Rattle.lock_core.specs.declared.opening.OpenError.{OpenError}
use Rattle.lock_core.specs.declared.opening.OpenError.TheVariants as error
use Rattle.lock_core.specs.declared.drawing.DrawNearResult.{DrawNearResult}
use Rattle.lock_core.specs.declared.drawing.DrawNearResult.TheVariants as near
use Rattle.lock_core.specs.declared.drawing.DrawWithinResult.{DrawWithinResult}
use Rattle.lock_core.specs.declared.drawing.DrawWithinResult.TheVariants as within
use Rattle.lock_core.specs.declared.waiting.SleepResult.{SleepResult}
use Rattle.lock_core.specs.declared.waiting.SleepResult.TheVariants as sleep
use Rattle.lock_core.specs.declared.releasing.ReleaseResult.{ReleaseResult}
use Rattle.lock_core.specs.declared.releasing.ReleaseResult.TheVariants as release
use Rattle.lock_core.specs.declared.barging.BargeResult.{BargeResult}
use Rattle.lock_core.specs.declared.barging.BargeResult.TheVariants as went
use Rattle.lock_core.specs.declared.head.LockWordState.{LockWordState}
use Rattle.lock_core.specs.declared.head.LockWordState.TheVariants as seen
use Rattle.lock_core.specs.declared.head.TakeResult.{TakeResult}
use Rattle.lock_core.specs.declared.head.TakeResult.TheVariants as taken
use Rattle.lock_core.specs.declared.releasing.LeaveResult.{LeaveResult}
use Rattle.lock_core.specs.declared.releasing.LeaveResult.TheVariants as leave
use Rattle.lock_core.specs.declared.head.HeadSleepResult.{HeadSleepResult}
use Rattle.lock_core.specs.declared.head.HeadSleepResult.TheVariants as head

-- the most acquisitions from one queue head's to the next
abbrev pub barging_limit_of : LockKind → ℕ
barging_limit_of kind.Strict = 1
barging_limit_of (kind.Barging turns) = turns

-- a barging limit is at least two
abbrev pub HasValidLimit : LockKind → Type 0
HasValidLimit kind.Strict = Unit {0}
HasValidLimit (kind.Barging turns) = 2 ≤ turns

-- whether the error fits the kind that the caller asked for
abbrev pub IsOpenErrorOf : LockKind → OpenError → Type 0
IsOpenErrorOf k error.Memory = HasValidLimit k
IsOpenErrorOf k (error.BadBargingLimit turns) = (k ≡ kind.Barging turns) × (turns < 2)

-- each definition claims P for some answers: here, that `draw_near` drew a ticket, or that it drew none
abbrev pub IfDrawn : DrawNearResult → Type 0 → Type 0
IfDrawn (near.AtTurn ticket) P = P
IfDrawn (near.Queued ticket rounds) P = P
IfDrawn (near.Far rounds) P = Unit {0}
IfDrawn near.Changed P = Unit {0}

abbrev pub IfNotDrawn : DrawNearResult → Type 0 → Type 0
IfNotDrawn (near.AtTurn ticket) P = Unit {0}
IfNotDrawn (near.Queued ticket rounds) P = Unit {0}
IfNotDrawn (near.Far rounds) P = P
IfNotDrawn near.Changed P = P

abbrev pub IfNearAtTurn : DrawNearResult → (ℕ → Type 0) → Type 0
IfNearAtTurn (near.AtTurn ticket) P = P ticket
IfNearAtTurn (near.Queued ticket rounds) P = Unit {0}
IfNearAtTurn (near.Far rounds) P = Unit {0}
IfNearAtTurn near.Changed P = Unit {0}

abbrev pub IfNearQueued : DrawNearResult → (ℕ → ℕ → Type 0) → Type 0
IfNearQueued (near.AtTurn ticket) P = Unit {0}
IfNearQueued (near.Queued ticket rounds) P = P ticket rounds
IfNearQueued (near.Far rounds) P = Unit {0}
IfNearQueued near.Changed P = Unit {0}

abbrev pub IfNearFar : DrawNearResult → (ℕ → Type 0) → Type 0
IfNearFar (near.AtTurn ticket) P = Unit {0}
IfNearFar (near.Queued ticket rounds) P = Unit {0}
IfNearFar (near.Far rounds) P = P rounds
IfNearFar near.Changed P = Unit {0}

abbrev pub IfNearChanged : DrawNearResult → Type 0 → Type 0
IfNearChanged (near.AtTurn ticket) P = Unit {0}
IfNearChanged (near.Queued ticket rounds) P = Unit {0}
IfNearChanged (near.Far rounds) P = Unit {0}
IfNearChanged near.Changed P = P

-- the same: `draw_within` drew a ticket, or drew none
abbrev pub IfWithinDrawn : DrawWithinResult → Type 0 → Type 0
IfWithinDrawn (within.AtTurn ticket) P = P
IfWithinDrawn (within.Queued ticket rounds) P = P
IfWithinDrawn (within.Far rounds) P = Unit {0}
IfWithinDrawn within.Changed P = Unit {0}
IfWithinDrawn within.Spent P = Unit {0}

abbrev pub IfWithinNotDrawn : DrawWithinResult → Type 0 → Type 0
IfWithinNotDrawn (within.AtTurn ticket) P = Unit {0}
IfWithinNotDrawn (within.Queued ticket rounds) P = Unit {0}
IfWithinNotDrawn (within.Far rounds) P = P
IfWithinNotDrawn within.Changed P = P
IfWithinNotDrawn within.Spent P = P

abbrev pub IfWithinAtTurn : DrawWithinResult → (ℕ → Type 0) → Type 0
IfWithinAtTurn (within.AtTurn ticket) P = P ticket
IfWithinAtTurn (within.Queued ticket rounds) P = Unit {0}
IfWithinAtTurn (within.Far rounds) P = Unit {0}
IfWithinAtTurn within.Changed P = Unit {0}
IfWithinAtTurn within.Spent P = Unit {0}

abbrev pub IfWithinQueued : DrawWithinResult → (ℕ → ℕ → Type 0) → Type 0
IfWithinQueued (within.AtTurn ticket) P = Unit {0}
IfWithinQueued (within.Queued ticket rounds) P = P ticket rounds
IfWithinQueued (within.Far rounds) P = Unit {0}
IfWithinQueued within.Changed P = Unit {0}
IfWithinQueued within.Spent P = Unit {0}

abbrev pub IfWithinFar : DrawWithinResult → (ℕ → Type 0) → Type 0
IfWithinFar (within.AtTurn ticket) P = Unit {0}
IfWithinFar (within.Queued ticket rounds) P = Unit {0}
IfWithinFar (within.Far rounds) P = P rounds
IfWithinFar within.Changed P = Unit {0}
IfWithinFar within.Spent P = Unit {0}

abbrev pub IfWithinChanged : DrawWithinResult → Type 0 → Type 0
IfWithinChanged (within.AtTurn ticket) P = Unit {0}
IfWithinChanged (within.Queued ticket rounds) P = Unit {0}
IfWithinChanged (within.Far rounds) P = Unit {0}
IfWithinChanged within.Changed P = P
IfWithinChanged within.Spent P = Unit {0}

abbrev pub IfWithinSpent : DrawWithinResult → Type 0 → Type 0
IfWithinSpent (within.AtTurn ticket) P = Unit {0}
IfWithinSpent (within.Queued ticket rounds) P = Unit {0}
IfWithinSpent (within.Far rounds) P = Unit {0}
IfWithinSpent within.Changed P = Unit {0}
IfWithinSpent within.Spent P = P

-- the same: `announce_sleep` found the waiter at its turn, counted the waiter, or did neither
abbrev pub IfSleepAtTurn : SleepResult → Type 0 → Type 0
IfSleepAtTurn sleep.AtTurn P = P
IfSleepAtTurn (sleep.Asleep rounds cell) P = Unit {0}
IfSleepAtTurn (sleep.Full rounds) P = Unit {0}
IfSleepAtTurn (sleep.Changed rounds) P = Unit {0}

abbrev pub IfSleepAnnounced : SleepResult → (ℕ → ℕ → Type 0) → Type 0
IfSleepAnnounced sleep.AtTurn P = Unit {0}
IfSleepAnnounced (sleep.Asleep rounds cell) P = P rounds cell
IfSleepAnnounced (sleep.Full rounds) P = Unit {0}
IfSleepAnnounced (sleep.Changed rounds) P = Unit {0}

abbrev pub IfSleepFull : SleepResult → (ℕ → Type 0) → Type 0
IfSleepFull sleep.AtTurn P = Unit {0}
IfSleepFull (sleep.Asleep rounds cell) P = Unit {0}
IfSleepFull (sleep.Full rounds) P = P rounds
IfSleepFull (sleep.Changed rounds) P = Unit {0}

abbrev pub IfSleepChanged : SleepResult → (ℕ → Type 0) → Type 0
IfSleepChanged sleep.AtTurn P = Unit {0}
IfSleepChanged (sleep.Asleep rounds cell) P = Unit {0}
IfSleepChanged (sleep.Full rounds) P = Unit {0}
IfSleepChanged (sleep.Changed rounds) P = P rounds

abbrev pub IfSleepRefused : SleepResult → (ℕ → Type 0) → Type 0
IfSleepRefused sleep.AtTurn P = Unit {0}
IfSleepRefused (sleep.Asleep rounds cell) P = Unit {0}
IfSleepRefused (sleep.Full rounds) P = P rounds
IfSleepRefused (sleep.Changed rounds) P = P rounds

-- the same: `release` granted the next ticket, or must be called again
abbrev pub IfGranted : ReleaseResult → (ℕ → Type 0) → Type 0
IfGranted (release.Granted sleepers) P = P sleepers
IfGranted release.Unfinished P = Unit {0}

abbrev pub IfUnfinished : ReleaseResult → Type 0 → Type 0
IfUnfinished (release.Granted sleepers) P = Unit {0}
IfUnfinished release.Unfinished P = P

-- the same: `barge_if` took the lock word, or found a value at which it did not
abbrev pub IfIn : BargeResult → Type 0 → Type 0
IfIn went.Inside P = P
IfIn (went.Outside lock_word) P = Unit {0}

abbrev pub IfNotIn : BargeResult → (ℕ → Type 0) → Type 0
IfNotIn went.Inside P = Unit {0}
IfNotIn (went.Outside lock_word) P = P lock_word

-- the same: a look found the lock word held, free for barging threads, or free for the queue head alone
abbrev pub IfSeenHeld : LockWordState → (ℕ → Bool → Type 0) → Type 0
IfSeenHeld (seen.Held newcomers requested) P = P newcomers requested
IfSeenHeld (seen.Free newcomers) P = Unit {0}
IfSeenHeld seen.ForHead P = Unit {0}

abbrev pub IfSeenFree : LockWordState → (ℕ → Type 0) → Type 0
IfSeenFree (seen.Held newcomers requested) P = Unit {0}
IfSeenFree (seen.Free newcomers) P = P newcomers
IfSeenFree seen.ForHead P = Unit {0}

abbrev pub IfSeenForHead : LockWordState → Type 0 → Type 0
IfSeenForHead (seen.Held newcomers requested) P = Unit {0}
IfSeenForHead (seen.Free newcomers) P = Unit {0}
IfSeenForHead seen.ForHead P = P

-- the same: `take_lock_word` took the lock word of an open lock, took that of a shut lock, or did not take the word
abbrev pub IfTaken : TakeResult → Type 0 → Type 0
IfTaken taken.Open P = P
IfTaken taken.Shut P = P
IfTaken (taken.Held lock_word) P = Unit {0}
IfTaken (taken.Changed lock_word) P = Unit {0}

abbrev pub IfTakenOpen : TakeResult → Type 0 → Type 0
IfTakenOpen taken.Open P = P
IfTakenOpen taken.Shut P = Unit {0}
IfTakenOpen (taken.Held lock_word) P = Unit {0}
IfTakenOpen (taken.Changed lock_word) P = Unit {0}

abbrev pub IfTakenShut : TakeResult → Type 0 → Type 0
IfTakenShut taken.Open P = Unit {0}
IfTakenShut taken.Shut P = P
IfTakenShut (taken.Held lock_word) P = Unit {0}
IfTakenShut (taken.Changed lock_word) P = Unit {0}

abbrev pub IfNotTaken : TakeResult → (ℕ → Type 0) → Type 0
IfNotTaken taken.Open P = Unit {0}
IfNotTaken taken.Shut P = Unit {0}
IfNotTaken (taken.Held lock_word) P = P lock_word
IfNotTaken (taken.Changed lock_word) P = P lock_word

abbrev pub IfHeld : TakeResult → (ℕ → Type 0) → Type 0
IfHeld taken.Open P = Unit {0}
IfHeld taken.Shut P = Unit {0}
IfHeld (taken.Held lock_word) P = P lock_word
IfHeld (taken.Changed lock_word) P = Unit {0}

abbrev pub IfTakeChanged : TakeResult → Type 0 → Type 0
IfTakeChanged taken.Open P = Unit {0}
IfTakeChanged taken.Shut P = Unit {0}
IfTakeChanged (taken.Held lock_word) P = Unit {0}
IfTakeChanged (taken.Changed lock_word) P = P

-- the same: `leave_lock_word` left the word and says whether the queue head sleeps there, or must be called again
abbrev pub IfLeft : LeaveResult → (Bool → Type 0) → Type 0
IfLeft (leave.Outside head_asleep) P = P head_asleep
IfLeft (leave.Changed lock_word) P = Unit {0}

abbrev pub IfNotLeft : LeaveResult → (ℕ → Type 0) → Type 0
IfNotLeft (leave.Outside head_asleep) P = Unit {0}
IfNotLeft (leave.Changed lock_word) P = P lock_word

-- the same: `announce_head_sleep` noted the sleep, or did not
abbrev pub IfHeadAsleep : HeadSleepResult → (ℕ → Type 0) → Type 0
IfHeadAsleep (head.Asleep lock_word) P = P lock_word
IfHeadAsleep head.NotHeld P = Unit {0}
IfHeadAsleep head.Changed P = Unit {0}

abbrev pub IfNotHeld : HeadSleepResult → Type 0 → Type 0
IfNotHeld (head.Asleep lock_word) P = Unit {0}
IfNotHeld head.NotHeld P = P
IfNotHeld head.Changed P = Unit {0}

abbrev pub IfHeadChanged : HeadSleepResult → Type 0 → Type 0
IfHeadChanged (head.Asleep lock_word) P = Unit {0}
IfHeadChanged head.NotHeld P = Unit {0}
IfHeadChanged head.Changed P = P
