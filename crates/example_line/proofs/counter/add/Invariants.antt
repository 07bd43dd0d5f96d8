use Rattle.std.proofs.Common.{◌≡◌, ◌+◌, IsTrue}
use Rattle.qolb_model.specs.PortStates.{may_ask}
use Rattle.qolb_model.specs.Sums.{KnowsOwnPlaces, HasNotShut}
use Rattle.example_line.specs.Counter.{added_by}
use Rattle.example_line.proofs.counter.add.Given as goal

abbrev pub invariant-loop-round : goal.invariant-loop-round
invariant-loop-round g l = record {
  belongs : g.L.LineSync.belongs l.line l.port;
  state : IsTrue (may_ask (g.L.LineSync.view l.port).state);
  count : (g.L.LineSync.view l.port).count ≡ (g.L.LineSync.view l.fn.port).count + l._round;
  places : KnowsOwnPlaces (g.L.LineSync.view l.fn.port) → KnowsOwnPlaces (g.L.LineSync.view l.port);
  unshut : KnowsOwnPlaces (g.L.LineSync.view l.fn.port) → HasNotShut (g.L.LineSync.view l.fn.port) → HasNotShut (g.L.LineSync.view l.port);
  added : KnowsOwnPlaces (g.L.LineSync.view l.fn.port) → added_by (g.L.LineSync.view l.port) ≡ added_by (g.L.LineSync.view l.fn.port) + l._round;
}
