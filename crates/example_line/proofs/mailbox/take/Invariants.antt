use Rattle.std.proofs.Common.{IsTrue}
use Rattle.qolb_model.specs.PortStates.{may_ask}
use Rattle.qolb_model.specs.Sums.{KnowsOwnPlaces}
use Rattle.example_line.specs.Mailbox.{Moves}
use Rattle.example_line.proofs.mailbox.take.Given as goal

abbrev pub invariant-loop : goal.invariant-loop
invariant-loop g l = record {
  belongs : g.L.LineSync.belongs l.line l.port;
  state : IsTrue (may_ask (g.L.LineSync.view l.port).state);
  moves : KnowsOwnPlaces (g.L.LineSync.view l.fn.port) → Moves (λ _. 0) (g.L.LineSync.view l.fn.port) (g.L.LineSync.view l.port);
}
