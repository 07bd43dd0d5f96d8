use Rattle.test_programs.specs.Ports.{MayAskFor}
use Rattle.test_programs.proofs.counts.race.Given as goal

abbrev pub invariant-loop : goal.invariant-loop
invariant-loop g l = MayAskFor g.L.LineSync.belongs g.L.LineSync.view l.line l.one × MayAskFor g.L.LineSync.belongs g.L.LineSync.view l.line l.two
