use Rattle.qolb_draw.proofs.Watching.{SeesShapes}
use Rattle.qolb_draw.proofs.steps.push_shapes.Given as goal

abbrev pub invariant-loop-column : goal.invariant-loop-column
invariant-loop-column g l = SeesShapes l.fn.steps l.column l.core l.words.home l.words.entries.items l.fn.svg.items l.svg.items
