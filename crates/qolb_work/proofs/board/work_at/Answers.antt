use Rattle.qolb_work.specs.Workers.{HasEnded}
use Rattle.qolb_work.specs.BoardWork.{HasWorked, WasTold}
use Rattle.qolb_work.proofs.Gathering.{done_of}
use Rattle.qolb_work.proofs.board.work_at.Goals as goal

pub finish-requires-clause-ended : goal.finish-requires-clause-ended
finish-requires-clause-ended g c =
    done_of (HasEnded (HasWorked g.L.LineSync.belongs g.L.LineSync.view) (WasTold g.L.LineSync.belongs g.L.LineSync.view)) c.args.line c.args.work.now.jobs c.in-Some.joined.back.items c.in_ok-hands-2.hands.items c.in_ok-hands-2.ensures.all c.in-Some.ensures.back
