use Rattle.std.specs.Prelude.{◌≡◌, ◌+◌}
use Rattle.example_fair_lock.proofs.count.have_turns.Given as goal

abbrev pub invariant-loop : goal.invariant-loop
invariant-loop g l = (l.tickets.parts ≡ 1) × (l.tickets.amount + l.counter ≡ l.each)
