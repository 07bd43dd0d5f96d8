use Rattle.std.proofs.Common.{rules, arith}
use Rattle.link_line.specs.Steps.{ghost_of}
use Rattle.link_line.proofs.Prepend.{prepends_next}
use Rattle.link_line.proofs.steps.prepend.Goals as goal

pub swap-requires : goal.swap-requires
swap-requires g c = (search rules, omega arith, prepends_next g.K.Keep.good g.K.Keep.allows c.args.table.now.key (ghost_of c.args.seat.now) c.requires.point.1 _ _ _ c.args.seat.now.me c.requires.point.0 c.requires.seat.1.0)
