use Rattle.qolb_draw.proofs.Drawn.{Stands}
use Rattle.qolb_draw.proofs.grid.draw_line.Given as goal

abbrev pub invariant-loop-command : goal.invariant-loop-command
invariant-loop-command g l = Stands l.fn.schedule l.number l.command-index l.done l.line.line l.line.waiting.items l.line.states.items l.line.closed l.grid.nodes l.grid.numbers.items l.grid.callers.items l.grid.events.items l.grid.marks.items
