use Rattle.std.proofs.Common.{◌≡◌}
use Rattle.qolb_draw.specs.Grids.{shown_out_of}
use Rattle.qolb_draw.proofs.text.shown.Given as goal

abbrev pub invariant-loop-before : goal.invariant-loop-before
invariant-loop-before g l = l.nodes.items ≡ shown_out_of l.before l.grid.callers.items
