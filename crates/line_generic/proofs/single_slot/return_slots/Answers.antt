use Rattle.std.proofs.Common.{rules, arith}
use Rattle.line_generic.specs.Steps.{ghost_of}
use Rattle.line_generic.proofs.single_slot.return_slots.Goals as goal

pub load-requires : goal.load-requires
load-requires g c = let r = c.requires.holding in let k = c.requires.kept in (search rules, omega arith, g.met.Q.Discipline.return_slots_law c.args.table.now.key _ _ _ c.args.seat.now.me (ghost_of g.Q.DisciplineSpec.phases.initial c.args.seat.now) k.0 k.1 r.0 r.1 k.2 k.3)
