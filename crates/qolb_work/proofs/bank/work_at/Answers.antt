use Rattle.qolb_work.specs.Workers.{HasEnded}
use Rattle.qolb_work.specs.BankWork.{HasBanked, WasTold}
use Rattle.qolb_work.proofs.Gathering.{done_of}
use Rattle.qolb_work.proofs.bank.work_at.Goals as goal

pub finish-requires-clause-ended : goal.finish-requires-clause-ended
finish-requires-clause-ended g c =
    done_of (HasEnded (HasBanked g.L.LineSync.belongs g.L.LineSync.view g.L.LineSync.config_of) (WasTold g.L.LineSync.belongs g.L.LineSync.view)) c.args.lines.items c.args.work.now.jobs c.in-Some.joined.back.items c.in_ok-desks.desks.items c.in_ok-desks.ensures.all c.in-Some.ensures.back
