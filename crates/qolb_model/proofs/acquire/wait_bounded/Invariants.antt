use Rattle.std.proofs.Common.{◌≡◌, ◌+◌}
use Rattle.qolb_model.specs.declared.answer.PortState.TheVariants.{Queued}
use Rattle.qolb_model.specs.Views.{Extends}
use Rattle.qolb_model.specs.Counting.{IsWithinCalls}
use Rattle.qolb_model.proofs.acquire.wait_bounded.Given as goal

abbrev pub invariant-loop : goal.invariant-loop
invariant-loop g l = record {
  belongs : g.L.LineSync.belongs l.line l.port;
  state : (g.L.LineSync.view l.port).state ≡ Queued;
  extends : Extends (g.L.LineSync.view l.initial.port) (g.L.LineSync.view l.port);
  poll_count : (g.L.LineSync.counters l.port).poll_count ≡ (g.L.LineSync.counters l.initial.port).poll_count + l.counter;
  steps : IsWithinCalls (g.L.LineSync.max_steps l.line) 0 (g.L.LineSync.counters l.initial.port) (g.L.LineSync.counters l.port);
  count : (g.L.LineSync.view l.port).count ≡ (g.L.LineSync.view l.initial.port).count;
}
