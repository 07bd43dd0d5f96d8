-- The statements that a proof uses when it compares what two tickets of one lock know. The definitions in this file
-- were made for this project; none is taken from the literature.
use Rattle.std.specs.Prelude.{◌≡◌, ◌≤◌, ◌⊎◌, [], ◌∷◌}
use Rattle.lock_core.specs.declared.view.View.{View}
use Rattle.lock_core.specs.Views.{max_newcomers_of}
use Rattle.qolb_locks.specs.declared.lock.Lock.{Lock}
use Rattle.qolb_locks.specs.declared.ticket.Ticket.{Ticket}

-- both tickets have a seat of this lock, and the claim holds of what their callers know
abbrev pub Both : Lock → Ticket → Ticket → (View → View → Type 0) → Type 0
Both lock t u P = (v w : View) × (t.claim.views ≡ v ∷ []) × (u.claim.views ≡ w ∷ [])
    × (t.claim.table_id ≡ lock.table.shared.table_id) × (u.claim.table_id ≡ lock.table.shared.table_id)
    × (v.max_newcomers ≡ max_newcomers_of lock.table.shared.key) × (w.max_newcomers ≡ max_newcomers_of lock.table.shared.key)
    × P v w

-- by its state, the ticket is at its turn in a strict lock and told of the lock word, or it is inside by the lock word
abbrev pub IsInService : Lock → Ticket → Type 0
IsInService lock t = (t.label ≡ lock.label) × ((t.state ≡ 4) ⊎ (t.state ≡ 5) ⊎ ((7 ≤ t.state) × (t.state ≤ 10)))
