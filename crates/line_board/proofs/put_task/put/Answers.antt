use Rattle.line_board.proofs.Answering.{stored, full, put_late, put_closed, put_busy}
use Rattle.qolb_model.proofs.WithinCalls.{no_call, calls_then}
use Rattle.line_board.proofs.put_task.put.Goals as goal

pub returns-then-store-clause-puts : goal.returns-then-store-clause-puts
returns-then-store-clause-puts g c =
    let s = c.store.ensures in
    stored (g.L.LineSync.view c.args.port.now) (g.L.LineSync.view c.acquire_bounded.new.port) (g.L.LineSync.view c.store.new.port) (g.L.LineSync.turn c.acquire_bounded.new.port)
    c.in-Granted.ensures.acquires s.continues s.count s.state c.args.task (s.stored c.if-store.true)

pub returns-else-store-clause-puts : goal.returns-else-store-clause-puts
returns-else-store-clause-puts g c =
    let s = c.store.ensures in
    full (g.L.LineSync.view c.args.port.now) (g.L.LineSync.view c.acquire_bounded.new.port) (g.L.LineSync.view c.store.new.port) (g.L.LineSync.turn c.acquire_bounded.new.port)
    c.in-Granted.ensures.acquires s.continues s.count s.state c.args.task (s.full c.if-store.false)

pub returns-in-Late-clause-puts : goal.returns-in-Late-clause-puts
returns-in-Late-clause-puts g c = put_late (g.L.LineSync.view c.args.port.now) (g.L.LineSync.view c.acquire_bounded.new.port) (g.L.LineSync.turn c.acquire_bounded.new.port) c.in-Late.ensures.acquires c.args.task

pub returns-in-Closed-clause-puts : goal.returns-in-Closed-clause-puts
returns-in-Closed-clause-puts g c = put_closed (g.L.LineSync.view c.args.port.now) (g.L.LineSync.view c.acquire_bounded.new.port) (g.L.LineSync.turn c.acquire_bounded.new.port) c.in-Closed.ensures.acquires c.args.task

pub returns-in-Busy-clause-puts : goal.returns-in-Busy-clause-puts
returns-in-Busy-clause-puts g c = put_busy (g.L.LineSync.view c.args.port.now) (g.L.LineSync.view c.acquire_bounded.new.port) (g.L.LineSync.turn c.acquire_bounded.new.port) c.in-Busy.ensures.acquires c.requires.state c.args.task

pub returns-then-store-clause-steps : goal.returns-then-store-clause-steps
returns-then-store-clause-steps g c = calls_then _ 2 1 _ _ _ c.in-Granted.ensures.steps c.store.ensures.steps

pub returns-else-store-clause-steps : goal.returns-else-store-clause-steps
returns-else-store-clause-steps g c = calls_then _ 2 1 _ _ _ c.in-Granted.ensures.steps c.store.ensures.steps

pub returns-in-Late-clause-steps : goal.returns-in-Late-clause-steps
returns-in-Late-clause-steps g c = calls_then _ 2 1 _ _ _ c.in-Late.ensures.steps (no_call _ 1 _)

pub returns-in-Closed-clause-steps : goal.returns-in-Closed-clause-steps
returns-in-Closed-clause-steps g c = calls_then _ 2 1 _ _ _ c.in-Closed.ensures.steps (no_call _ 1 _)

pub returns-in-Busy-clause-steps : goal.returns-in-Busy-clause-steps
returns-in-Busy-clause-steps g c = calls_then _ 2 1 _ _ _ c.in-Busy.ensures.steps (no_call _ 1 _)
