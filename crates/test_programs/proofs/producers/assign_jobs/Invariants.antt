use Rattle.std.proofs.Common.{All}
use Rattle.std.specs.Vec.Iter.{into_iter_items}
use Rattle.line_accounts.specs.NewDesks.{IsNewPort}
use Rattle.test_programs.specs.Ports.{MayAskFor}
use Rattle.test_programs.proofs.producers.assign_jobs.Given as goal

abbrev pub invariant-loop-port : goal.invariant-loop-port
invariant-loop-port g l =
    All (IsNewPort g.L.LineSync.belongs g.L.LineSync.view l.line) (into_iter_items l.port-iterator)
    × All (λ worker. MayAskFor g.L.LineSync.belongs g.L.LineSync.view l.line worker.port) l.workers.items
