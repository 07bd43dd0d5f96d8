-- What is guaranteed to a waiter that announces its sleep, and what a releasing thread must do to wake sleepers.
use Rattle.std.specs.Prelude.{◌≡◌, ℕ, ◌+◌, ◌%◌, ◌<◌, true, false}
use Rattle.atomic_table.specs.declared.shared.Seat.{Seat}
use Rattle.lock_core.specs.declared.view.View.{View}
use Rattle.lock_core.specs.Layout.{count_of, asleep_of}
use Rattle.lock_core.specs.Views.{GrantedToNobodyAsleep, LeftQuietly}
use Rattle.fair_lock.specs.declared.releasing.ToWake.{ToWake}
use Rattle.fair_lock.specs.declared.wake.Look.{Look}
use Rattle.fair_lock.specs.declared.wake.Seen.{Seen}
use Rattle.fair_lock.specs.declared.wake.Counted.{Counted}
use Rattle.fair_lock.specs.declared.wake.Announced.{Announced}
use Rattle.fair_lock.specs.declared.wake.Announced.TheVariants as announced

-- the claim holds if the waiter is at its turn, if it is counted, or if it is not
abbrev pub IfAnnouncedAtTurn : Announced → Type 0 → Type 0
IfAnnouncedAtTurn announced.AtTurn P = P
IfAnnouncedAtTurn (announced.Counted c) P = Unit {0}
IfAnnouncedAtTurn announced.Not P = Unit {0}

abbrev pub IfAnnounced : Announced → Type 0 → Type 0
IfAnnounced announced.AtTurn P = Unit {0}
IfAnnounced (announced.Counted c) P = P
IfAnnounced announced.Not P = Unit {0}

abbrev pub IfCounted : Announced → (Counted → Type 0) → Type 0
IfCounted announced.AtTurn P = Unit {0}
IfCounted (announced.Counted c) P = P c
IfCounted announced.Not P = Unit {0}

abbrev pub IfNotAnnounced : Announced → Type 0 → Type 0
IfNotAnnounced announced.AtTurn P = Unit {0}
IfNotAnnounced (announced.Counted c) P = Unit {0}
IfNotAnnounced announced.Not P = P

-- the waiter sleeps at the word that it read, while the word is still what it read
abbrev pub IsAtWordOf : Seen → Counted → Type 0
IsAtWordOf seen counted = (counted.place ≡ seen.place) × (counted.low ≡ seen.low)

-- What a thread that granted a ticket must do. If it must wake sleepers at that ticket's wake word, its step found some
-- counted there. If it must wake nobody, nobody slept for the ticket.
abbrev pub IsToldOf : ToWake → View → Type 0
IsToldOf told v = (told.place ≡ v.granted % 32) × (told.asleep ≡ true → 0 < count_of v.looks.found) × (told.asleep ≡ false → GrantedToNobodyAsleep v)

-- What a thread that left the lock word must do. If it must wake the queue head at its wake word, its step found the
-- queue head asleep. If it must wake nobody, no queue head slept there.
abbrev pub IsToldOfHead : ToWake → View → Type 0
IsToldOfHead told v = (told.place ≡ 32) × (told.asleep ≡ true → asleep_of v.looks.found ≡ 1) × (told.asleep ≡ false → LeftQuietly v)

-- the last step found this in the wake word of this place
abbrev pub Finds : ℕ → ℕ → Seat ℕ Look → Type 0
Finds place n step = (step.me.0.word ≡ place) × (step.me.0.found ≡ n)

-- the last step added one to the wake word of this place
abbrev pub AddsOne : ℕ → Seat ℕ Look → Type 0
AddsOne place step = (step.me.0.word ≡ place) × (step.me.0.left ≡ (step.me.0.found + 1) % 18446744073709551616)
