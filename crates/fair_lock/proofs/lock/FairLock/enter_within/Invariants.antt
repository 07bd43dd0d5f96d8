use Rattle.lock_core.specs.Views.{view_of, Timely, IsSeatOf, IsOutside}
use Rattle.fair_lock.proofs.lock.FairLock.enter_within.Given as goal

abbrev pub invariant-loop : goal.invariant-loop
invariant-loop g l =
    (goal.iterator-loop g).can_next l.iterator' × (goal.iterator-loop g).is_finite l.iterator'
    × IsSeatOf l.fn.self.table.shared.table_id l.fn.self.table.shared.key l.seat × (Timely (view_of l.seat) → IsOutside (view_of l.seat))
