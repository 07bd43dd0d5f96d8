use Rattle.line_generic.specs.Ports.{HasSplit}
use Rattle.line_generic.proofs.open.split_ports.Given as goal

abbrev pub invariant-loop-done : goal.invariant-loop-done
invariant-loop-done g l = HasSplit g.Q.DisciplineSpec.phases.initial l.table.table_id l.key l.done l.rest l.ports.items
