use Rattle.std.proofs.Common.{◌≡◌, IsTrue}
use Rattle.qolb_model.specs.PortStates.{may_ask}
use Rattle.qolb_model.specs.Views.{Extends}
use Rattle.line_blocking.proofs.timed.acquire_parking.Given as goal

abbrev pub invariant-loop : goal.invariant-loop
invariant-loop g l = record {
  belongs : g.L.LineSync.belongs l.line l.port;
  state : IsTrue (may_ask (g.L.LineSync.view l.port).state);
  extends : Extends (g.L.LineSync.view l.initial.port) (g.L.LineSync.view l.port);
  count : (g.L.LineSync.view l.port).count ≡ (g.L.LineSync.view l.initial.port).count;
  poll_count : (g.L.LineSync.counters l.port).poll_count ≡ (g.L.LineSync.counters l.initial.port).poll_count;
}
