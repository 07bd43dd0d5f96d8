use Rattle.std.proofs.Common.{IsTrue}
use Rattle.qolb_model.specs.PortStates.{may_ask}
use Rattle.qolb_model.specs.Sums.{KnowsOwnPlaces}
use Rattle.example_line.specs.Mailbox.{Takes}
use Rattle.example_line.proofs.mailbox.take_all.Given as goal

abbrev pub invariant-loop-count : goal.invariant-loop-count
invariant-loop-count g l = record {
  belongs : g.L.LineSync.belongs l.line l.port;
  state : IsTrue (may_ask (g.L.LineSync.view l.port).state);
  takes : KnowsOwnPlaces (g.L.LineSync.view l.fn.port) → Takes l._count l.sum (g.L.LineSync.view l.fn.port) (g.L.LineSync.view l.port);
}
