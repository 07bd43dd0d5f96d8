use Rattle.std.proofs.Common.{◌≡◌}
use Rattle.qolb_model.specs.declared.answer.PortState.TheVariants.{Queued}
use Rattle.bench_line.proofs.stress.wait_or_withdraw.Given as goal

abbrev pub invariant-loop : goal.invariant-loop
invariant-loop g l = g.L.LineSync.belongs l.line l.port × ((g.L.LineSync.view l.port).state ≡ Queued)
