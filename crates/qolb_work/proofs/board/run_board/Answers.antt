use Rattle.std.proofs.Common.{sym, subst}
use Rattle.qolb_work.specs.JustOpened.{IsNewLine}
use Rattle.qolb_work.proofs.Inside.{new_outside, boarded_if_inside}
use Rattle.qolb_work.proofs.board.run_board.Goals as goal

pub work_at-requires-in-Asleep-clause-new : goal.work_at-requires-in-Asleep-clause-new
work_at-requires-in-Asleep-clause-new g c = λ _ _.
    new_outside g.L.LineSync.belongs g.L.LineSync.view g.L.LineSync.config_of (λ asleep. asleep.line) c.args.work.now.workers c.new-line.result c.in_ok-line.ports.items
    (subst (λ line. IsNewLine g.L.LineSync.belongs g.L.LineSync.view g.L.LineSync.config_of c.args.work.now.workers line c.in_ok-line.ports.items) (sym c.new-line.ensures)
    (subst (λ n. IsNewLine g.L.LineSync.belongs g.L.LineSync.view g.L.LineSync.config_of n c.in_ok-line.line c.in_ok-line.ports.items) c.workers.ensures.workers c.in_ok-line.ensures.new))

pub returns-in-Asleep-clause-boarded : goal.returns-in-Asleep-clause-boarded
returns-in-Asleep-clause-boarded g c =
    boarded_if_inside g.L.LineSync.belongs g.L.LineSync.view g.L.LineSync.config_of (λ asleep. asleep.line) c.args.work.now c.work_at-in-Asleep.result c.work_at-in-Asleep.ensures.boarded
