use Rattle.line_generic.specs.Finish.{HasJoinedSome}
use Rattle.line_generic.proofs.finish.gather.Given as goal

abbrev pub invariant-loop-port : goal.invariant-loop-port
invariant-loop-port g l = HasJoinedSome g.Q.DisciplineSpec.phases.in_state l.table.table_id l.fn.ports.items l.port-iterator.rest.items l.whole
