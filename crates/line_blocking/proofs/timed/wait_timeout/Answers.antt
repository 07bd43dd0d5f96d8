use Rattle.std.proofs.Common.{refl, ◌∙◌}
use Rattle.qolb_model.proofs.Going.{continues_on}
use Rattle.line_blocking.proofs.Acquiring.{polled_granted_in_time, polled_told_in_time, waits_on, looked_first, looked_more}
use Rattle.line_blocking.proofs.timed.wait_timeout.Goals as goal

pub returns-in-Granted-clause-ends_wait : goal.returns-in-Granted-clause-ends_wait
returns-in-Granted-clause-ends_wait g c = polled_granted_in_time _ _ _ _ _ c.loop.invariant.extends c.loop.invariant.count c.in-Granted.ensures.polls

pub returns-in-Granted-clause-looked : goal.returns-in-Granted-clause-looked
returns-in-Granted-clause-looked g c = looked_first _ _ _ c.loop.invariant.poll_count c.in-Granted.ensures.counts.poll_count

pub returns-in-Closed-clause-ends_wait : goal.returns-in-Closed-clause-ends_wait
returns-in-Closed-clause-ends_wait g c = polled_told_in_time _ _ _ _ _ c.loop.invariant.extends c.loop.invariant.count c.in-Closed.ensures.polls

pub returns-in-Closed-clause-looked : goal.returns-in-Closed-clause-looked
returns-in-Closed-clause-looked g c = looked_first _ _ _ c.loop.invariant.poll_count c.in-Closed.ensures.counts.poll_count

pub returns-in_default-clause-belongs : goal.returns-in_default-clause-belongs
returns-in_default-clause-belongs g c = c.give_up.ensures.belongs

pub returns-in_default-clause-ends_wait : goal.returns-in_default-clause-ends_wait
returns-in_default-clause-ends_wait g c = waits_on _ _ _ _ _ _ _ _ c.loop.invariant.extends c.loop.invariant.count c.in-Waiting.ensures.polls c.give_up.ensures.ends_wait

pub returns-in_default-clause-looked : goal.returns-in_default-clause-looked
returns-in_default-clause-looked g c = looked_first _ _ _ c.loop.invariant.poll_count (c.give_up.ensures.poll_count ∙ c.in-Waiting.ensures.counts.poll_count)

pub loop-preserved-then-not-pause : goal.loop-preserved-then-not-pause
loop-preserved-then-not-pause g c = record {
  belongs = c.in-Waiting.ensures.belongs;
  state = (c.in-Waiting.ensures.polls.waiting refl).state;
  extends = (continues_on _ _ _ _ c.loop.invariant.extends c.in-Waiting.ensures.polls.continues).extends;
  poll_count = looked_more _ _ _ c.loop.invariant.poll_count c.in-Waiting.ensures.counts.poll_count;
  count = c.in-Waiting.ensures.polls.count ∙ c.loop.invariant.count;
}

pub loop-preserved : goal.loop-preserved
loop-preserved g c = record {
  belongs = c.in-Waiting.ensures.belongs;
  state = (c.in-Waiting.ensures.polls.waiting refl).state;
  extends = (continues_on _ _ _ _ c.loop.invariant.extends c.in-Waiting.ensures.polls.continues).extends;
  poll_count = looked_more _ _ _ c.loop.invariant.poll_count c.in-Waiting.ensures.counts.poll_count;
  count = c.in-Waiting.ensures.polls.count ∙ c.loop.invariant.count;
}

pub sleep-requires-clause-belongs : goal.sleep-requires-clause-belongs
sleep-requires-clause-belongs g c = c.in-Waiting.ensures.belongs

pub sleep-requires-clause-state : goal.sleep-requires-clause-state
sleep-requires-clause-state g c = (c.in-Waiting.ensures.polls.waiting refl).state
