-- How each call on a plain line changes the abstract state of that line.
use Rattle.std.specs.Prelude.{ℕ, ◌-◌, ◌==◌, Bool, true, false, ◌||◌, if◌then◌else◌, List, [], ◌∷◌, ◌++◌, drop, Option, Some, None}
use Rattle.qolb_model.specs.declared.answer.Poll.{Poll}
use Rattle.qolb_model.specs.declared.answer.Poll.TheVariants.{Granted, Waiting, Closed}
use Rattle.qolb_model.specs.declared.waiter.Waiter.{Waiter}
use Rattle.qolb_model.specs.Plain.{PlainView, is_at, is_oldest}

-- the entries that are left after the withdrawn entries at the front are passed
abbrev pub after_withdrawn : List Waiter → List Waiter
after_withdrawn [] = []
after_withdrawn (w ∷ ws) = if w.withdrawn then after_withdrawn ws else w ∷ ws

-- the entry, marked as withdrawn if it is the node's
abbrev pub withdrawn_at : ℕ → Waiter → Waiter
withdrawn_at node w = if is_at node w then record w { withdrawn = true } else w

-- a node that does not wait is put behind all others
abbrev pub with_waiter : PlainView → ℕ → PlainView
with_waiter line node = record line { waiting = line.waiting ++ record { node = node; withdrawn = false } ∷ [] }

-- the turn of the oldest node ends, and the withdrawn entries behind it are passed
abbrev pub turn_ended : PlainView → PlainView
turn_ended line = record line { waiting = after_withdrawn (drop 1 line.waiting); granted = false; turn = record { mask = record { 0 = 0 }; bytes = line.turn.bytes } }

-- whether exactly one turn of the lease is left, and the lease with one turn fewer
abbrev pub is_one : Option ℕ → Bool
is_one None = false
is_one (Some turns) = turns == 1

abbrev pub decrement : Option ℕ → Option ℕ
decrement None = None
decrement (Some turns) = Some (turns - 1)

-- the turn of the oldest node was served; the line is closed if `shut` was set, or if the turn was the last
abbrev pub turn_served : Bool → PlainView → PlainView
turn_served shut line = turn_ended (record line { closed = line.closed || (shut || is_one line.left); left = decrement line.left })

-- the answer of a node's poll
abbrev pub look_answer : PlainView → ℕ → Poll
look_answer line node = if is_oldest line node then (if line.closed then Closed else Granted) else Waiting

abbrev pub looked : Poll → PlainView → PlainView
looked Granted line = record line { granted = true }
looked Waiting line = line
looked Closed line = turn_ended line
