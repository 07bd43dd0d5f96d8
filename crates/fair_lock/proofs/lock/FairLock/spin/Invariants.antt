use Rattle.std.proofs.Common.{◌<◌, ◌≤◌}
use Rattle.lock_core.specs.Views.{view_of, Timely, IsSeatOf, IsQueued, SameInside}
use Rattle.fair_lock.specs.Found.{FoundWaiting}
use Rattle.fair_lock.proofs.lock.FairLock.spin.Given as goal

abbrev pub invariant-loop-polls : goal.invariant-loop-polls
invariant-loop-polls g l =
    IsSeatOf l.fn.self.table.shared.table_id l.fn.self.table.shared.key l.seat × (Timely (view_of l.seat) → IsQueued l.fn.ticket (view_of l.seat)) × SameInside (view_of l.fn.seat) (view_of l.seat) × ((view_of l.fn.seat).most_open ≤ (view_of l.seat).most_open)
    × (0 < l.polls → FoundWaiting l.fn.ticket l.seat)
