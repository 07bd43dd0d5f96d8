use Rattle.lock_core.specs.Views.{view_of, InTime, LoadGrows, IsSeatOf, HasTurnOf, SameTurn}
use Rattle.test_lock.proofs.field.Field.release_all.Given as goal

abbrev pub invariant-loop : goal.invariant-loop
invariant-loop g l = IsSeatOf l.self.table.shared.table_id l.self.table.shared.key l.seat × InTime l.seat (HasTurnOf l.ticket) × LoadGrows l.fn.seat l.seat × SameTurn (view_of l.fn.seat) (view_of l.seat)
