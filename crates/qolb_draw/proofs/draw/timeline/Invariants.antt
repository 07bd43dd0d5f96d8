use Rattle.qolb_draw.proofs.Lines.{HasLines}
use Rattle.qolb_draw.proofs.draw.timeline.Given as goal

abbrev pub invariant-loop-number : goal.invariant-loop-number
invariant-loop-number g l = HasLines l.fn.schedule l.number l.lines.items l.top l.width
