use Rattle.qolb_draw.proofs.Watching.{SeesLines}
use Rattle.qolb_draw.proofs.steps.push_lines.Given as goal

abbrev pub invariant-loop-column : goal.invariant-loop-column
invariant-loop-column g l = SeesLines l.fn.steps l.column l.core l.fn.text.items l.text.items
