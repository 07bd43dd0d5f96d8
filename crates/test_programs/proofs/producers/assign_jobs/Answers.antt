use Rattle.std.proofs.Common.{is_ok}
use Rattle.std.specs.Vec.Iter.{into_iter_items}
use Rattle.std.proofs.lemmas.List.Elements.{All-rest}
use Rattle.test_programs.specs.declared.producers.Worker.{Worker}
use Rattle.line_accounts.specs.NewDesks.{IsNewPort}
use Rattle.test_programs.specs.Ports.{MayAskFor}
use Rattle.line_accounts.proofs.Columns.{all_first}
use Rattle.test_programs.proofs.Each.{all_pushed}
use Rattle.test_programs.proofs.producers.assign_jobs.Goals as goal

pub loop-port-preserved : goal.loop-port-preserved
loop-port-preserved g c = (
  All-rest (λ (port : g.row.L-Port.Denot). IsNewPort g.L.LineSync.belongs g.L.LineSync.view c.args.line.now port) c.in-Some.port (into_iter_items c.next.new.self) (into_iter_items c.loop-port.port-iterator) c.in-Some.ensures.steps.0 c.loop-port.invariant.0,
  all_pushed (λ (worker : Worker g.row.L-Port.Denot). MayAskFor g.L.LineSync.belongs g.L.LineSync.view c.args.line.now worker.port) (is_ok c.push.result) c.loop-port.workers.items c.push.new.self.items c.in_ok-worker.worker c.push.ensures.items c.loop-port.invariant.1 c.in_ok-worker.ensures,
)

pub worker_of-requires : goal.worker_of-requires
worker_of-requires g c =
    all_first (λ (port : g.row.L-Port.Denot). IsNewPort g.L.LineSync.belongs g.L.LineSync.view c.args.line.now port) c.in-Some.port (into_iter_items c.next.new.self) (into_iter_items c.loop-port.port-iterator) c.in-Some.ensures.steps.0 c.loop-port.invariant.0
