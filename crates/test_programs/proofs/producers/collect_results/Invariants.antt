use Rattle.std.proofs.Common.{All}
use Rattle.std.specs.Vec.Iter.{into_iter_items}
use Rattle.test_programs.specs.Ports.{MayAskFor}
use Rattle.test_programs.proofs.producers.collect_results.Given as goal

abbrev pub invariant-loop-worker : goal.invariant-loop-worker
invariant-loop-worker g l =
    All (λ worker. MayAskFor g.L.LineSync.belongs g.L.LineSync.view l.line worker.port) (into_iter_items l.worker-iterator)
    × All (g.L.LineSync.belongs l.line) l.ports.items
