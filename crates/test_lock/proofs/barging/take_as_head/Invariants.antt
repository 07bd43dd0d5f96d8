use Rattle.lock_core.specs.Views.{InTime, IsSeatOf, IsAtTurn}
use Rattle.test_lock.proofs.barging.take_as_head.Given as goal

abbrev pub invariant-loop : goal.invariant-loop
invariant-loop g l = IsSeatOf l.field.table.shared.table_id l.field.table.shared.key l.seat × InTime l.seat (IsAtTurn l.ticket)
