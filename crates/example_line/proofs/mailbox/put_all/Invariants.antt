use Rattle.std.proofs.Common.{IsTrue}
use Rattle.qolb_model.specs.PortStates.{may_ask}
use Rattle.qolb_model.specs.Sums.{KnowsOwnPlaces}
use Rattle.example_line.specs.Mailbox.{Exchanges, sum_up_to}
use Rattle.example_line.proofs.mailbox.put_all.Given as goal

abbrev pub invariant-loop-value : goal.invariant-loop-value
invariant-loop-value g l = record {
  belongs : g.L.LineSync.belongs l.line l.port;
  state : IsTrue (may_ask (g.L.LineSync.view l.port).state);
  exchanges : KnowsOwnPlaces (g.L.LineSync.view l.fn.port) → Exchanges l.value (sum_up_to l.value) 0 0 (g.L.LineSync.view l.fn.port) (g.L.LineSync.view l.port);
}
