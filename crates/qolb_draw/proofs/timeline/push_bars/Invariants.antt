use Rattle.std.proofs.Common.{◌-◌}
use Rattle.qolb_draw.specs.Grids.{stands_out_of}
use Rattle.qolb_draw.proofs.Shapes.{HasBars}
use Rattle.qolb_draw.proofs.timeline.push_bars.Given as goal

abbrev pub invariant-loop-column : goal.invariant-loop-column
invariant-loop-column g l = HasBars l.row l.node l.stand l.start l.column (stands_out_of l.grid.nodes l.grid.marks.items l.node l.column (l.end - l.column)) (stands_out_of l.grid.nodes l.grid.marks.items l.node 0 l.end) l.fn.svg.items l.svg.items
