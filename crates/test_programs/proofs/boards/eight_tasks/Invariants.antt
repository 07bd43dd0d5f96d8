use Rattle.std.proofs.Common.{IsTrue}
use Rattle.qolb_model.specs.PortStates.{may_ask}
use Rattle.test_programs.proofs.boards.eight_tasks.Given as goal

abbrev pub invariant-loop-k : goal.invariant-loop-k
invariant-loop-k g l = g.L.LineSync.belongs l.line l.port × IsTrue (may_ask (g.L.LineSync.view l.port).state)

abbrev pub invariant-loop-answer : goal.invariant-loop-answer
invariant-loop-answer g l = g.L.LineSync.belongs l.line l.port × IsTrue (may_ask (g.L.LineSync.view l.port).state)
