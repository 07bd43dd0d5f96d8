use Rattle.std.proofs.Common.{◌≡◌}
use Rattle.qolb_model.specs.declared.answer.PortState.TheVariants.{Queued}
use Rattle.qolb_model.specs.Views.{Extends}
use Rattle.line_blocking.proofs.strategy.wait_by.Given as goal

abbrev pub invariant-loop : goal.invariant-loop
invariant-loop g l = record {
  belongs : g.L.LineSync.belongs l.line l.port;
  state : (g.L.LineSync.view l.port).state ≡ Queued;
  extends : Extends (g.L.LineSync.view l.initial.port) (g.L.LineSync.view l.port);
  count : (g.L.LineSync.view l.port).count ≡ (g.L.LineSync.view l.initial.port).count;
}
