use Rattle.std.proofs.Common.{◌≡◌, ◌+◌, ◌*◌, ◌%◌, ◌<◌, ◌≤◌}
use Rattle.lock_core.specs.Views.{Timely, view_of, IsSeatOf, SameTurn, SameOvertaking, HasTurnOf}
use Rattle.lock_core.specs.Looks.{StepsLater}
use Rattle.lock_core.proofs.releasing.release.Given as goal

abbrev pub invariant-loop : goal.invariant-loop
invariant-loop g l = IsSeatOf l.table.table_id l.table.key l.seat × (Timely (view_of l.seat) → HasTurnOf l.ticket (view_of l.seat)) × (Timely (view_of l.seat) → (view_of l.fn.seat).ticket ≤ (view_of l.seat).ticket) × SameTurn (view_of l.fn.seat) (view_of l.seat) × ((view_of l.fn.seat).most_open ≤ (view_of l.seat).most_open)
    × StepsLater (2 * l.counter) l.fn.seat l.seat × (l.counter ≡ 0 → l.ticket ≡ l.fn.ticket) × (0 < l.counter → l.ticket ≡ (l.fn.ticket + l.counter) % 18446744073709551616) × (Timely (view_of l.seat) → SameOvertaking (view_of l.fn.seat) (view_of l.seat))
