use Rattle.std.proofs.Common.{◌≡◌, ◌<◌, ◌+◌, ℕ, get_or}
use Rattle.qolb_draw.specs.Pictures.{letter_of}
use Rattle.qolb_draw.specs.Grids.{mark_out_of}
use Rattle.qolb_draw.proofs.text.fill_row.Given as goal

abbrev pub invariant-loop-column : goal.invariant-loop-column
invariant-loop-column g l = (k : ℕ) → k < l.column → get_or l.row k 0 ≡ letter_of (mark_out_of l.grid.nodes l.grid.marks.items l.node (l.start + k))
