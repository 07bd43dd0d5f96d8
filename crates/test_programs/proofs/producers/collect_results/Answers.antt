use Rattle.std.proofs.Common.{is_ok}
use Rattle.std.specs.Vec.Iter.{into_iter_items}
use Rattle.std.proofs.lemmas.List.Elements.{All-rest}
use Rattle.test_programs.specs.declared.producers.Worker.{Worker}
use Rattle.test_programs.specs.Ports.{MayAskFor}
use Rattle.line_accounts.proofs.Columns.{all_first}
use Rattle.test_programs.proofs.Each.{all_pushed}
use Rattle.test_programs.proofs.producers.collect_results.Goals as goal

pub loop-worker-preserved : goal.loop-worker-preserved
loop-worker-preserved g c =
    let own = all_first (λ (worker : Worker g.row.L-Port.Denot). MayAskFor g.L.LineSync.belongs g.L.LineSync.view c.args.line.now worker.port) c.in-Some.worker (into_iter_items c.next.new.self) (into_iter_items c.loop-worker.worker-iterator) c.in-Some.ensures.steps.0 c.loop-worker.invariant.0 in (
      All-rest (λ (worker : Worker g.row.L-Port.Denot). MayAskFor g.L.LineSync.belongs g.L.LineSync.view c.args.line.now worker.port) c.in-Some.worker (into_iter_items c.next.new.self) (into_iter_items c.loop-worker.worker-iterator) c.in-Some.ensures.steps.0 c.loop-worker.invariant.0,
      all_pushed (g.L.LineSync.belongs c.args.line.now) (is_ok c.push.result) c.loop-worker.ports.items c.push.new.self.items c.in-Some.worker.port c.push.ensures.items c.loop-worker.invariant.1 own.0,
    )
