use Rattle.std.proofs.Common.{◌≤◌, ◌+◌, ℕ, sym, subst}
use Rattle.line_board.proofs.Answering.{taken, empty, take_late, take_closed, take_busy, task_not_late, empty_not_late}
use Rattle.qolb_model.proofs.WithinCalls.{no_call, calls_then}
use Rattle.line_board.proofs.take_task.take.Goals as goal

pub returns-in-Some-clause-takes : goal.returns-in-Some-clause-takes
returns-in-Some-clause-takes g c =
    let s = c.in-Some.ensures in
    taken (g.L.LineSync.view c.args.port.now) (g.L.LineSync.view c.acquire_bounded.new.port) (g.L.LineSync.view c.remove.new.port) (g.L.LineSync.turn c.acquire_bounded.new.port)
    c.in-Granted.ensures.acquires s.continues s.count s.state c.in-Some.task s.taken

pub returns-in-None-clause-takes : goal.returns-in-None-clause-takes
returns-in-None-clause-takes g c =
    let s = c.in-None.ensures in
    empty (g.L.LineSync.view c.args.port.now) (g.L.LineSync.view c.acquire_bounded.new.port) (g.L.LineSync.view c.remove.new.port) (g.L.LineSync.turn c.acquire_bounded.new.port)
    c.in-Granted.ensures.acquires s.continues s.count s.state s.taken

pub returns-in-Some-clause-patient : goal.returns-in-Some-clause-patient
returns-in-Some-clause-patient g c =
    subst (λ (n : ℕ). n ≤ (g.L.LineSync.counters c.args.port.now).poll_count + c.args.patience) (sym c.in-Some.ensures.poll_count) c.in-Granted.ensures.patient

pub returns-in-Some-clause-late : goal.returns-in-Some-clause-late
returns-in-Some-clause-late g c = λ e. absurd (task_not_late _ e)

pub returns-in-None-clause-patient : goal.returns-in-None-clause-patient
returns-in-None-clause-patient g c =
    subst (λ (n : ℕ). n ≤ (g.L.LineSync.counters c.args.port.now).poll_count + c.args.patience) (sym c.in-None.ensures.poll_count) c.in-Granted.ensures.patient

pub returns-in-None-clause-late : goal.returns-in-None-clause-late
returns-in-None-clause-late g c = λ e. absurd (empty_not_late e)

pub returns-in-Late-clause-takes : goal.returns-in-Late-clause-takes
returns-in-Late-clause-takes g c = take_late (g.L.LineSync.view c.args.port.now) (g.L.LineSync.view c.acquire_bounded.new.port) (g.L.LineSync.turn c.acquire_bounded.new.port) c.in-Late.ensures.acquires

pub returns-in-Closed-clause-takes : goal.returns-in-Closed-clause-takes
returns-in-Closed-clause-takes g c = take_closed (g.L.LineSync.view c.args.port.now) (g.L.LineSync.view c.acquire_bounded.new.port) (g.L.LineSync.turn c.acquire_bounded.new.port) c.in-Closed.ensures.acquires

pub returns-in-Busy-clause-takes : goal.returns-in-Busy-clause-takes
returns-in-Busy-clause-takes g c = take_busy (g.L.LineSync.view c.args.port.now) (g.L.LineSync.view c.acquire_bounded.new.port) (g.L.LineSync.turn c.acquire_bounded.new.port) c.in-Busy.ensures.acquires c.requires.state

pub returns-in-Some-clause-steps : goal.returns-in-Some-clause-steps
returns-in-Some-clause-steps g c = calls_then _ 2 1 _ _ _ c.in-Granted.ensures.steps c.in-Some.ensures.steps

pub returns-in-None-clause-steps : goal.returns-in-None-clause-steps
returns-in-None-clause-steps g c = calls_then _ 2 1 _ _ _ c.in-Granted.ensures.steps c.in-None.ensures.steps

pub returns-in-Late-clause-steps : goal.returns-in-Late-clause-steps
returns-in-Late-clause-steps g c = calls_then _ 2 1 _ _ _ c.in-Late.ensures.steps (no_call _ 1 _)

pub returns-in-Closed-clause-steps : goal.returns-in-Closed-clause-steps
returns-in-Closed-clause-steps g c = calls_then _ 2 1 _ _ _ c.in-Closed.ensures.steps (no_call _ 1 _)

pub returns-in-Busy-clause-steps : goal.returns-in-Busy-clause-steps
returns-in-Busy-clause-steps g c = calls_then _ 2 1 _ _ _ c.in-Busy.ensures.steps (no_call _ 1 _)
