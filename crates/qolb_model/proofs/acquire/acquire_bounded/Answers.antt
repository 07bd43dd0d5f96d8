use Rattle.qolb_model.proofs.Acquiring.{granted_at_once, told_at_once, found_busy, granted_later, told_later, withdrawn_later}
use Rattle.qolb_model.proofs.WithinCalls.{no_call, one_call, calls_then}
use Rattle.qolb_model.proofs.acquire.acquire_bounded.Goals as goal

pub returns-in-Granted-wait_bounded-clause-acquires : goal.returns-in-Granted-wait_bounded-clause-acquires
returns-in-Granted-wait_bounded-clause-acquires g c = granted_later _ _ _ _ _ _ c.in-Queued.ensures.enqueues c.in-Granted-wait_bounded.ensures.withdraws

pub returns-in-Closed-wait_bounded-clause-acquires : goal.returns-in-Closed-wait_bounded-clause-acquires
returns-in-Closed-wait_bounded-clause-acquires g c = told_later _ _ _ _ _ _ c.in-Queued.ensures.enqueues c.in-Closed-wait_bounded.ensures.withdraws

pub returns-in-Withdrawn-clause-acquires : goal.returns-in-Withdrawn-clause-acquires
returns-in-Withdrawn-clause-acquires g c = withdrawn_later _ _ _ _ _ _ c.in-Queued.ensures.enqueues c.in-Withdrawn.ensures.withdraws

pub returns-in-Granted-clause-acquires : goal.returns-in-Granted-clause-acquires
returns-in-Granted-clause-acquires g c = granted_at_once _ _ _ _ c.in-Granted.ensures.enqueues

pub returns-in-Closed-clause-acquires : goal.returns-in-Closed-clause-acquires
returns-in-Closed-clause-acquires g c = told_at_once _ _ _ _ c.in-Closed.ensures.enqueues

pub returns-in-Busy-clause-acquires : goal.returns-in-Busy-clause-acquires
returns-in-Busy-clause-acquires g c = found_busy _ _ _ _ c.in-Busy.ensures.enqueues

pub returns-in-Granted-clause-steps : goal.returns-in-Granted-clause-steps
returns-in-Granted-clause-steps g c = let counts = c.in-Granted.ensures.counts in
    calls_then _ 1 1 _ _ _ (one_call _ _ _ counts.total_steps counts.bound counts.poll_count) (no_call _ 1 _)

pub returns-in-Closed-clause-steps : goal.returns-in-Closed-clause-steps
returns-in-Closed-clause-steps g c = let counts = c.in-Closed.ensures.counts in
    calls_then _ 1 1 _ _ _ (one_call _ _ _ counts.total_steps counts.bound counts.poll_count) (no_call _ 1 _)

pub returns-in-Busy-clause-steps : goal.returns-in-Busy-clause-steps
returns-in-Busy-clause-steps g c = let counts = c.in-Busy.ensures.counts in
    calls_then _ 1 1 _ _ _ (one_call _ _ _ counts.total_steps counts.bound counts.poll_count) (no_call _ 1 _)

pub returns-in-Granted-wait_bounded-clause-steps : goal.returns-in-Granted-wait_bounded-clause-steps
returns-in-Granted-wait_bounded-clause-steps g c = let counts = c.in-Queued.ensures.counts in
    calls_then _ 1 1 _ _ _ (one_call _ _ _ counts.total_steps counts.bound counts.poll_count) c.in-Granted-wait_bounded.ensures.steps

pub returns-in-Closed-wait_bounded-clause-steps : goal.returns-in-Closed-wait_bounded-clause-steps
returns-in-Closed-wait_bounded-clause-steps g c = let counts = c.in-Queued.ensures.counts in
    calls_then _ 1 1 _ _ _ (one_call _ _ _ counts.total_steps counts.bound counts.poll_count) c.in-Closed-wait_bounded.ensures.steps

pub returns-in-Withdrawn-clause-steps : goal.returns-in-Withdrawn-clause-steps
returns-in-Withdrawn-clause-steps g c = let counts = c.in-Queued.ensures.counts in
    calls_then _ 1 1 _ _ _ (one_call _ _ _ counts.total_steps counts.bound counts.poll_count) c.in-Withdrawn.ensures.steps
