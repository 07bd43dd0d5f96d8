use Rattle.std.proofs.Common.{rules}
use Rattle.line_cells.specs.Steps.{ghost_of}
use Rattle.ticket_line.proofs.Stepping.{ticket_loads}
use Rattle.ticket_line.proofs.steps.load.Goals as goal

pub load-requires : goal.load-requires
load-requires g c = (
  search rules,
  search rules,
  ticket_loads g.K.Keep.good g.K.Keep.allows c.args.table.now.key (ghost_of c.args.seat.now) _ _ _ c.args.seat.now.me c.requires.nodes c.requires.point.1 (λ i. (c.requires.point.0 i, c.requires.no_slot i)) c.args.ticket c.requires.ticket c.cell_word.ensures.0,
)
