use Rattle.std.proofs.Common.{refl, ◌∙◌}
use Rattle.qolb_model.proofs.Agreeing.{extends_trans}
use Rattle.qolb_model.proofs.Acquiring.{granted_by_look, told_by_look, withdraws_later, granted_in_time, told_in_time, one_look_more, looks_allowed, all_looks}
use Rattle.qolb_model.proofs.WithinCalls.{no_call, one_call, one_poll, calls_then}
use Rattle.qolb_model.proofs.acquire.wait_bounded.Goals as goal

pub returns-in-Granted-clause-withdraws : goal.returns-in-Granted-clause-withdraws
returns-in-Granted-clause-withdraws g c = granted_by_look _ _ _ _ _ c.loop.invariant.extends c.loop.invariant.count c.in-Granted.ensures.polls

pub returns-in-Granted-clause-patient : goal.returns-in-Granted-clause-patient
returns-in-Granted-clause-patient g c = looks_allowed _ _ _ c.loop.invariant.poll_count _ _ c.in-Granted.ensures.counts.poll_count c.loop-test.true

pub returns-in-Granted-clause-late : goal.returns-in-Granted-clause-late
returns-in-Granted-clause-late g c late = absurd (granted_in_time late)

pub returns-in-Closed-clause-withdraws : goal.returns-in-Closed-clause-withdraws
returns-in-Closed-clause-withdraws g c = told_by_look _ _ _ _ _ c.loop.invariant.extends c.loop.invariant.count c.in-Closed.ensures.polls

pub returns-in-Closed-clause-patient : goal.returns-in-Closed-clause-patient
returns-in-Closed-clause-patient g c = looks_allowed _ _ _ c.loop.invariant.poll_count _ _ c.in-Closed.ensures.counts.poll_count c.loop-test.true

pub returns-in-Closed-clause-late : goal.returns-in-Closed-clause-late
returns-in-Closed-clause-late g c late = absurd (told_in_time late)

pub loop-preserved : goal.loop-preserved
loop-preserved g c =
    let polls = c.in-Waiting.ensures.polls in
    record {
      belongs = c.in-Waiting.ensures.belongs;
      state = (polls.waiting refl).state;
      extends = extends_trans _ _ _ c.loop.invariant.extends polls.continues.extends;
      poll_count = one_look_more _ _ _ c.loop.invariant.poll_count _ c.in-Waiting.ensures.counts.poll_count;
      steps = let counts = c.in-Waiting.ensures.counts in calls_then _ 0 0 _ _ _ c.loop.invariant.steps (one_poll _ _ _ counts.total_steps counts.bound counts.poll_count);
      count = polls.count ∙ c.loop.invariant.count;
    }

-- what `withdraw` promises is at hand; a wait that ends without `withdraw` needs nothing
pub returns-clause-withdraws : goal.returns-clause-withdraws
returns-clause-withdraws g c = withdraws_later _ _ _ _ _ c.loop.invariant.extends c.loop.invariant.count _ assumption

pub returns-clause-late : goal.returns-clause-late
returns-clause-late g c _ = (assumption) ∙ all_looks _ _ _ c.loop.invariant.poll_count _ c.loop-test.false c.loop.auto.counter-end

pub returns-in-Granted-clause-steps : goal.returns-in-Granted-clause-steps
returns-in-Granted-clause-steps g c = let counts = c.in-Granted.ensures.counts in
    calls_then _ 0 1 _ _ _ (calls_then _ 0 0 _ _ _ c.loop.invariant.steps (one_poll _ _ _ counts.total_steps counts.bound counts.poll_count)) (no_call _ 1 _)

pub returns-in-Closed-clause-steps : goal.returns-in-Closed-clause-steps
returns-in-Closed-clause-steps g c = let counts = c.in-Closed.ensures.counts in
    calls_then _ 0 1 _ _ _ (calls_then _ 0 0 _ _ _ c.loop.invariant.steps (one_poll _ _ _ counts.total_steps counts.bound counts.poll_count)) (no_call _ 1 _)

pub returns-clause-steps : goal.returns-clause-steps
returns-clause-steps g c = let counts = c.withdraw.ensures.counts in
    calls_then _ 0 1 _ _ _ c.loop.invariant.steps (one_call _ _ _ counts.total_steps counts.bound counts.poll_count)
