-- The contents of a ticket, and what the ticket knows about its lock. The definitions in this file were made for this
-- project; none is taken from the literature.
use Rattle.std.specs.Prelude.{◌≡◌, ◌≢◌, ℕ, ◌==◌, if◌then◌else◌, ◌≤◌, [], ◌∷◌}
use Rattle.lock_core.specs.declared.view.View.{View}
use Rattle.lock_core.specs.Views.{max_newcomers_of, Timely, IsIdle, IsQueuedWithin, IsAsleep, IsAtTurn, HasTurnOf, IsInside, ServedOpen, ServedShut, KnowsShut}
use Rattle.qolb_locks.specs.declared.lock.Lock.{Lock}
use Rattle.qolb_locks.specs.declared.ticket.Ticket.{Ticket}
use Rattle.qolb_locks.specs.declared.ticket.State.{State}
use Rattle.qolb_locks.specs.declared.ticket.State.TheVariants as state

-- C's number of a state
abbrev pub number_of : State → ℕ
number_of state.Free = 0
number_of state.Waiting = 1
number_of state.Asleep = 2
number_of state.AtTurn = 3
number_of state.Served = 4
number_of state.ServedShut = 5
number_of state.Ending = 6
number_of state.HeadInside = 7
number_of state.HeadInsideShut = 8
number_of state.Inside = 9
number_of state.InsideShut = 10

-- the state of a number; no other number occurs
abbrev pub state_of : ℕ → State
state_of n =
    if n == 1 then state.Waiting else if n == 2 then state.Asleep else if n == 3 then state.AtTurn
    else if n == 4 then state.Served else if n == 5 then state.ServedShut else if n == 6 then state.Ending
    else if n == 7 then state.HeadInside else if n == 8 then state.HeadInsideShut
    else if n == 9 then state.Inside else if n == 10 then state.InsideShut else state.Free

-- the lock is strict, or it is a barging lock
abbrev pub IsStrict : Lock → Type 0
IsStrict lock = lock.barging_limit ≤ 1

abbrev pub IsBarging : Lock → Type 0
IsBarging lock = 2 ≤ lock.barging_limit

-- what the caller of a ticket knows, by the ticket's state, number and rounds to go
abbrev pub Says : State → ℕ → ℕ → View → Type 0
Says state.Free number rounds v = IsIdle v
Says state.Waiting number rounds v = IsQueuedWithin rounds number v
Says state.Asleep number rounds v = IsAsleep number v
Says state.AtTurn number rounds v = IsAtTurn number v
Says state.Served number rounds v = (v.max_newcomers ≡ 0) × IsAtTurn number v × ServedOpen v
Says state.ServedShut number rounds v = (v.max_newcomers ≡ 0) × IsAtTurn number v × ServedShut v × KnowsShut v
Says state.Ending number rounds v = HasTurnOf number v
Says state.HeadInside number rounds v = HasTurnOf number v × (v.inside ≡ 1) × ServedOpen v
Says state.HeadInsideShut number rounds v = HasTurnOf number v × (v.inside ≡ 1) × ServedShut v × KnowsShut v
Says state.Inside number rounds v = IsInside v × ServedOpen v
Says state.InsideShut number rounds v = IsInside v × ServedShut v × KnowsShut v

-- the ticket has a seat of this lock, and the claim holds of its view, if the load on the lock never exceeded what
-- `Timely` allows
abbrev pub Knows : Lock → Ticket → (View → Type 0) → Type 0
Knows lock t P = (v : View) × (t.claim.views ≡ v ∷ []) × (t.claim.table_id ≡ lock.table.shared.table_id)
    × (v.max_newcomers ≡ max_newcomers_of lock.table.shared.key) × (Timely v → P v)

-- the ticket belongs to this lock by its label, it is in this state by its number, and what that state says is true
abbrev pub Is : State → Lock → Ticket → Type 0
Is state lock t = (t.label ≡ lock.label) × (t.state ≡ number_of state)

-- the ticket belongs to this lock, and its state has one of these numbers
abbrev pub IsWithin : ℕ → ℕ → Lock → Ticket → Type 0
IsWithin low high lock t = (t.label ≡ lock.label) × (low ≤ t.state) × (t.state ≤ high)

abbrev pub Has : State → Lock → Ticket → Type 0
Has state lock t = Is state lock t × Knows lock t (Says state t.number t.rounds)

-- What a call requires of a ticket: if the ticket has the lock's label, what its state says is true. A ticket of zeros
-- has the label of no lock.
abbrev pub IsKnown : Lock → Ticket → Type 0
IsKnown lock t = t.label ≡ lock.label → Knows lock t (Says (state_of t.state) t.number t.rounds)

-- the ticket has no request at any lock
abbrev pub IsFree : Ticket → Type 0
IsFree t = t.state ≡ 0

-- the ticket has no request, and no seat of this lock: its next call that draws or barges is its first at this lock
abbrev pub IsNew : Lock → Ticket → Type 0
IsNew lock t = (t.state ≡ 0) × (t.label ≢ lock.label)
