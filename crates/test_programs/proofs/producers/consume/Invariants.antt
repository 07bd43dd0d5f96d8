use Rattle.std.proofs.Common.{IsTrue}
use Rattle.qolb_model.specs.PortStates.{may_ask}
use Rattle.test_programs.proofs.producers.consume.Given as goal

abbrev pub invariant-loop : goal.invariant-loop
invariant-loop g l = g.L.LineSync.belongs l.line l.port × IsTrue (may_ask (g.L.LineSync.view l.port).state)
