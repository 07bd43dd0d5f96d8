use Rattle.std.proofs.Common.{IsTrue}
use Rattle.qolb_model.specs.PortStates.{may_ask}
use Rattle.test_blocking.proofs.tests.asleep.SharingScopedTaskPort.work.Given as goal

abbrev pub invariant-loop-round : goal.invariant-loop-round
invariant-loop-round g l = g.L.LineSync.belongs l.line l.port × IsTrue (may_ask (g.L.LineSync.view l.port).state)
