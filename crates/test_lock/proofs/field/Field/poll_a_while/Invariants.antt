use Rattle.lock_core.specs.Views.{InTime, IsSeatOf, IsQueued}
use Rattle.test_lock.proofs.field.Field.poll_a_while.Given as goal

abbrev pub invariant-loop : goal.invariant-loop
invariant-loop l = IsSeatOf l.self.table.shared.table_id l.self.table.shared.key l.seat × InTime l.seat (IsQueued l.ticket)
