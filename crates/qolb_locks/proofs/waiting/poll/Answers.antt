use Rattle.std.proofs.Common.{ap, ◌∙◌, arith}
use Rattle.qolb_locks.specs.declared.claim.Claim.{Claim}
use Rattle.qolb_locks.proofs.waiting.poll.Goals as goal

pub returns-clause-same : goal.returns-clause-same
returns-clause-same c = λ _. (
  c.take-seat.result.me.0,
  c.poll-rounds.new.seat.me.0,
  c.take-seat.ensures.view,
  ap (λ (claim : Claim). claim.views) c.settle.ensures.claim ∙ c.put.ensures.view,
  c.poll-rounds.ensures.load,
  c.poll-rounds.ensures.request,
)

pub returns-clause-steps : goal.returns-clause-steps
returns-clause-steps c = λ _. (
  c.take-seat.result.me.0,
  c.poll-rounds.new.seat.me.0,
  c.take-seat.ensures.view,
  ap (λ (claim : Claim). claim.views) c.settle.ensures.claim ∙ c.put.ensures.view,
  omega (arith, c.poll-rounds.ensures.steps),
  c.poll-rounds.ensures.load,
)
