use Rattle.std.proofs.Common.{◌≡◌, ◌+◌}
use Rattle.qolb_model.specs.declared.answer.PortState.TheVariants.{Queued}
use Rattle.qolb_model.specs.Views.{Extends}
use Rattle.qolb_model.specs.Enqueueing.{Asks}
use Rattle.example_line.proofs.mailbox.ask.Given as goal

abbrev pub invariant-loop : goal.invariant-loop
invariant-loop g l = record {
  belongs : g.L.LineSync.belongs l.line l.port;
  state : (g.L.LineSync.view l.port).state ≡ Queued;
  count : (g.L.LineSync.view l.port).count ≡ (g.L.LineSync.view l.fn.port).count + 1;
  poll_count : (g.L.LineSync.counters l.port).poll_count ≡ (g.L.LineSync.counters l.fn.port).poll_count + l.counter;
  extends : Extends (g.L.LineSync.view l.fn.port) (g.L.LineSync.view l.port);
  asks : Asks (g.L.LineSync.view l.fn.port) (g.L.LineSync.view l.port);
}
