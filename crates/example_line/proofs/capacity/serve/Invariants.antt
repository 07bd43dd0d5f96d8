use Rattle.std.proofs.Common.{◌≡◌, ◌+◌, IsTrue}
use Rattle.qolb_model.specs.PortStates.{may_ask}
use Rattle.qolb_model.specs.Sums.{sum_of_own, KnowsOwnPlaces, HasNotShut}
use Rattle.example_line.specs.Seats.{serves, spoils}
use Rattle.example_line.proofs.capacity.serve.Given as goal

abbrev pub invariant-loop-customer : goal.invariant-loop-customer
invariant-loop-customer g l = record {
  belongs : g.L.LineSync.belongs l.line l.port;
  state : IsTrue (may_ask (g.L.LineSync.view l.port).state);
  places : KnowsOwnPlaces (g.L.LineSync.view l.fn.port) → KnowsOwnPlaces (g.L.LineSync.view l.port);
  unshut : KnowsOwnPlaces (g.L.LineSync.view l.fn.port) → HasNotShut (g.L.LineSync.view l.fn.port) → HasNotShut (g.L.LineSync.view l.port);
  served : KnowsOwnPlaces (g.L.LineSync.view l.fn.port) → sum_of_own serves (g.L.LineSync.view l.port) ≡ sum_of_own serves (g.L.LineSync.view l.fn.port) + l._customer;
  unspoiled : KnowsOwnPlaces (g.L.LineSync.view l.fn.port) → sum_of_own spoils (g.L.LineSync.view l.port) ≡ sum_of_own spoils (g.L.LineSync.view l.fn.port);
}
