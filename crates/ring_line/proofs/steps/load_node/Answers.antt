use Rattle.std.proofs.Common.{rules, arith, ap, ◌∙◌}
use Rattle.line_cells.specs.Layout.{node_at}
use Rattle.line_cells.specs.Steps.{ghost_of}
use Rattle.line_cells.proofs.Renewing.{loads_node_next}
use Rattle.line_cells.specs.SlotLayout.{one_slot}
use Rattle.ring_line.specs.Ring.{RingCells}
use Rattle.ring_line.proofs.steps.load_node.Goals as goal

pub load-requires : goal.load-requires
load-requires g c = (search rules, omega arith, loads_node_next RingCells one_slot g.K.Keep.good g.K.Keep.allows c.args.table.now.key (ghost_of c.args.seat.now) c.requires.point.1 _ _ _ c.args.seat.now.me c.requires.point.0 (c.node_word.ensures ∙ ap node_at c.requires.seat.1.0))
