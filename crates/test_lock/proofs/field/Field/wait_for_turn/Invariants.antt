use Rattle.lock_core.specs.Views.{InTime, IsSeatOf, IsQueued}
use Rattle.test_lock.proofs.field.Field.wait_for_turn.Given as goal

abbrev pub invariant-loop : goal.invariant-loop
invariant-loop g l = IsSeatOf l.self.table.shared.table_id l.self.table.shared.key l.seat × InTime l.seat (IsQueued l.ticket)
