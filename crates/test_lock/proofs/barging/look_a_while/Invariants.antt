use Rattle.lock_core.specs.Views.{InTime, IsSeatOf, IsAtTurn}
use Rattle.test_lock.proofs.barging.look_a_while.Given as goal

abbrev pub invariant-loop : goal.invariant-loop
invariant-loop l = IsSeatOf l.field.table.shared.table_id l.field.table.shared.key l.seat × InTime l.seat (IsAtTurn l.ticket)
