use Rattle.std.proofs.Common.{rules, arith, ap, ◌∙◌}
use Rattle.line_cells.specs.Layout.{cell_at}
use Rattle.ring_line.specs.Layout.{cell_of}
use Rattle.line_cells.specs.Steps.{ghost_of}
use Rattle.line_cells.proofs.Slots.{one_take}
use Rattle.line_cells.proofs.Load.{loads_next}
use Rattle.ring_line.specs.Steps.{is_blank, is_granted}
use Rattle.ring_line.proofs.Cells.{takes, stays}
use Rattle.line_cells.specs.SlotLayout.{one_slot}
use Rattle.ring_line.specs.Ring.{RingCells}
use Rattle.ring_line.proofs.steps.load.Goals as goal

pub load-requires : goal.load-requires
load-requires g c = (search rules, omega arith, loads_next RingCells one_slot g.K.Keep.good g.K.Keep.allows c.args.table.now.key (ghost_of c.args.seat.now) c.requires.point.1 cell_of is_blank is_granted one_take (takes (ghost_of c.args.seat.now).own.place (ghost_of c.args.seat.now).view.node (λ n. n)) (stays (ghost_of c.args.seat.now).own.place) _ _ _ c.args.seat.now.me (λ i. (c.requires.point.0 i, c.requires.no_slot i)) (c.cell_word.ensures ∙ ap cell_at c.requires.cell))
