use Rattle.std.proofs.Common.{◌≤◌}
use Rattle.lock_core.specs.Views.{view_of, Timely, IsSeatOf, IsInside, SameKnown}
use Rattle.fair_lock.proofs.lock.FairLock.leave_lock_word.Given as goal

abbrev pub invariant-loop : goal.invariant-loop
invariant-loop g l =
    (goal.iterator-loop g).can_next l.iterator' × (goal.iterator-loop g).is_finite l.iterator'
    × IsSeatOf l.fn.self.table.shared.table_id l.fn.self.table.shared.key l.seat × (Timely (view_of l.seat) → IsInside (view_of l.seat)) × SameKnown (view_of l.fn.seat) (view_of l.seat) × ((view_of l.fn.seat).most_open ≤ (view_of l.seat).most_open)
