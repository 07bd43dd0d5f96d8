-- Lemmas about the first call with a ticket on a lock: how many atomic steps it takes, including those that create the
-- ticket's seat.
use Rattle.std.proofs.Common.{◌≡◌, ℕ, ◌+◌, [], ◌∷◌, sym, ap, ◌∙◌, arith}
use Rattle.lock_core.specs.declared.view.View.{View}
use Rattle.qolb_locks.specs.declared.ticket.Ticket.{Ticket}
use Rattle.qolb_locks.specs.Calls.{StepsFirst, StepsUpTo}

-- the steps that make a new seat, followed by the steps of the call
pub first_then : (k m : ℕ) (mid now : Ticket) → StepsFirst k mid → StepsUpTo m mid now → StepsFirst (k + m) now
first_then k m mid now first later =
    let one : first.0 ∷ [] ≡ later.0 ∷ [] = sym first.1 ∙ later.2 in
    let same : first.0 ≡ later.0 = cc in
    let steps : first.0.looks.steps ≡ later.0.looks.steps = ap (λ (v : View). v.looks.steps) same in
    (later.1, later.3, omega arith)
