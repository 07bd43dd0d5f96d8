use Rattle.std.proofs.Common.{[]}
use Rattle.qolb_work.specs.BoardWork.{HasTurns}
use Rattle.qolb_work.proofs.board.put_at_last.Given as goal

abbrev pub invariant-loop : goal.invariant-loop
invariant-loop g l = g.L.LineSync.belongs l.line l.port × HasTurns (g.L.LineSync.view l.initial.port) (g.L.LineSync.view l.port) []
