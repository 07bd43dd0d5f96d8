use Rattle.std.proofs.Common.{refl, ◌∙◌}
use Rattle.qolb_model.proofs.Going.{continues_on}
use Rattle.line_blocking.proofs.Acquiring.{polled_granted, polled_told}
use Rattle.line_blocking.proofs.strategy.wait_by.Goals as goal

pub returns-in-Granted-clause-ends_wait : goal.returns-in-Granted-clause-ends_wait
returns-in-Granted-clause-ends_wait g c = polled_granted _ _ _ _ _ c.loop.invariant.extends c.loop.invariant.count c.in-Granted.ensures.polls

pub returns-in-Closed-clause-ends_wait : goal.returns-in-Closed-clause-ends_wait
returns-in-Closed-clause-ends_wait g c = polled_told _ _ _ _ _ c.loop.invariant.extends c.loop.invariant.count c.in-Closed.ensures.polls

pub loop-preserved : goal.loop-preserved
loop-preserved g c = record {
  belongs = c.in-Waiting.ensures.belongs;
  state = (c.in-Waiting.ensures.polls.waiting refl).state;
  extends = (continues_on _ _ _ _ c.loop.invariant.extends c.in-Waiting.ensures.polls.continues).extends;
  count = c.in-Waiting.ensures.polls.count ∙ c.loop.invariant.count;
}
