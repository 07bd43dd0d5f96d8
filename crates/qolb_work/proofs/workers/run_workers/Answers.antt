use Rattle.qolb_work.specs.Workers.{HasEnded}
use Rattle.qolb_work.proofs.Gathering.{back_at, refused_at}
use Rattle.qolb_work.proofs.workers.run_workers.Goals as goal

pub returns-clause-back : goal.returns-clause-back
returns-clause-back g c = back_at (HasEnded g.S.JobTarget.has_done g.S.JobTarget.was_told) (g.G.Gate.may_refuse c.args.gate.now) c.args.site.now c.args.work.now.jobs c.in_ok-back.back.items c.in_ok-back.ensures.post

pub returns-clause-refused : goal.returns-clause-refused
returns-clause-refused g c = refused_at (HasEnded g.S.JobTarget.has_done g.S.JobTarget.was_told) (g.G.Gate.may_refuse c.args.gate.now) c.args.site.now c.args.work.now.jobs c.in_ok-back.back.items c.in_ok-back.ensures.post
