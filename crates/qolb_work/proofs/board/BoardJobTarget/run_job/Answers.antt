use Rattle.std.proofs.Common.{Some, ap, ◌∙◌, arith}
use Rattle.qolb_work.proofs.Working.{within_jobs, few_in_all, then_told, then_stored, then_full, then_taken, then_none}
use Rattle.qolb_work.proofs.board.BoardJobTarget.run_job.Goals as goal

pub overflow_add-hand : goal.overflow_add-hand
overflow_add-hand g c =
    let (worker, done, worked, few) = c.requires.done in
    let within = (within_jobs g.L.LineSync.belongs g.L.LineSync.view c.args.self.now.line worker c.args.hand.now done worked).stored in
    record { fits = omega (arith, within, few) }

pub overflow_add-hand-in-Some-false : goal.overflow_add-hand-in-Some-false
overflow_add-hand-in-Some-false g c =
    let (worker, done, worked, few) = c.requires.done in
    let within = (within_jobs g.L.LineSync.belongs g.L.LineSync.view c.args.self.now.line worker c.args.hand.now done worked).full in
    record { fits = omega (arith, within, few) }

pub overflow_add-hand-in-Some-true-take_at_last : goal.overflow_add-hand-in-Some-true-take_at_last
overflow_add-hand-in-Some-true-take_at_last g c =
    let (worker, done, worked, few) = c.requires.done in
    let within = (within_jobs g.L.LineSync.belongs g.L.LineSync.view c.args.self.now.line worker c.args.hand.now done worked).taken in
    record { fits = omega (arith, within, few) }

pub overflow_add-hand-in-Some-false-take_at_last : goal.overflow_add-hand-in-Some-false-take_at_last
overflow_add-hand-in-Some-false-take_at_last g c =
    let (worker, done, worked, few) = c.requires.done in
    let within = (within_jobs g.L.LineSync.belongs g.L.LineSync.view c.args.self.now.line worker c.args.hand.now done worked).empty in
    record { fits = omega (arith, within, few) }

pub returns-in-Some-true-clause-done : goal.returns-in-Some-true-clause-done
returns-in-Some-true-clause-done g c = λ _ worker done worked.
    let (turn, had, has) = c.put_at_last.ensures.stored (c.in-Some-true.is ∙ ap Some c.in-Some-true.field-0-test) in
    then_stored g.L.LineSync.belongs g.L.LineSync.view c.args.self.now.line worker c.args.hand.now done worked c.put_at_last.new.port c.put_at_last.ensures.belongs c.in-Put.worker c.in-Put.task c.args.job.now c.in-Put.is turn had has

pub returns-in-Some-false-clause-done : goal.returns-in-Some-false-clause-done
returns-in-Some-false-clause-done g c = λ _ worker done worked.
    let (turn, had, has) = c.put_at_last.ensures.full (c.in-Some-false.is ∙ ap Some c.in-Some-false.field-0-test) in
    then_full g.L.LineSync.belongs g.L.LineSync.view c.args.self.now.line worker c.args.hand.now done worked c.put_at_last.new.port c.put_at_last.ensures.belongs c.in-Put.worker c.in-Put.task c.args.job.now c.in-Put.is turn had has

pub returns-in-Some-true-take_at_last-clause-done : goal.returns-in-Some-true-take_at_last-clause-done
returns-in-Some-true-take_at_last-clause-done g c = λ _ worker done worked.
    let (turn, had, has) = c.take_at_last.ensures.taken (c.in-Some-true-take_at_last.is ∙ ap Some c.in-Some-true-take_at_last.field-0-test) in
    then_taken g.L.LineSync.belongs g.L.LineSync.view c.args.self.now.line worker c.args.hand.now done worked c.take_at_last.new.port c.take_at_last.ensures.belongs c.in-Take.worker c.args.job.now c.in-Take.is turn had has

pub returns-in-Some-false-take_at_last-clause-done : goal.returns-in-Some-false-take_at_last-clause-done
returns-in-Some-false-take_at_last-clause-done g c = λ _ worker done worked.
    let (turn, had, has) = c.take_at_last.ensures.empty (c.in-Some-false-take_at_last.is ∙ ap Some c.in-Some-false-take_at_last.field-0-test) in
    then_none g.L.LineSync.belongs g.L.LineSync.view c.args.self.now.line worker c.args.hand.now done worked c.take_at_last.new.port c.take_at_last.ensures.belongs c.in-Take.worker c.args.job.now c.in-Take.is turn had has

pub returns-in-None-clause-told : goal.returns-in-None-clause-told
returns-in-None-clause-told g c = λ _ worker done worked.
    let (own, before, had_worked, few) = c.requires.done in
    let (had, told) = c.in-None.ensures.told in
    then_told g.L.LineSync.belongs g.L.LineSync.view c.args.self.now.line worker c.args.hand.now done worked c.put_at_last.new.port c.put_at_last.ensures.belongs had told
    (few_in_all g.L.LineSync.belongs g.L.LineSync.view c.args.self.now.line own c.args.hand.now before had_worked few)

pub returns-in-None-take_at_last-clause-told : goal.returns-in-None-take_at_last-clause-told
returns-in-None-take_at_last-clause-told g c = λ _ worker done worked.
    let (own, before, had_worked, few) = c.requires.done in
    let (had, told) = c.in-None-take_at_last.ensures.told in
    then_told g.L.LineSync.belongs g.L.LineSync.view c.args.self.now.line worker c.args.hand.now done worked c.take_at_last.new.port c.take_at_last.ensures.belongs had told
    (few_in_all g.L.LineSync.belongs g.L.LineSync.view c.args.self.now.line own c.args.hand.now before had_worked few)
