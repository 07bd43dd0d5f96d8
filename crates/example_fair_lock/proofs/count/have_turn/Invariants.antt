use Rattle.std.specs.Prelude.{◌≡◌}
use Rattle.example_fair_lock.proofs.count.have_turn.Given as goal

abbrev pub invariant-loop : goal.invariant-loop
invariant-loop g l =
    (goal.iterator-loop g).can_next l.iterator' × (goal.iterator-loop g).is_finite l.iterator'
    × (l.tickets.parts ≡ l.fn.tickets.parts) × (l.tickets.amount ≡ l.fn.tickets.amount)
