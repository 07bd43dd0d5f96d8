use Rattle.std.proofs.Common.{ap, ◌∙◌, arith}
use Rattle.qolb_locks.specs.declared.claim.Claim.{Claim}
use Rattle.qolb_locks.proofs.shutting.check_open.Goals as goal

pub returns-clause-steps : goal.returns-clause-steps
returns-clause-steps c = λ _. (
  c.take-seat.result.me.0,
  c.check_open-open.new.seat.me.0,
  c.take-seat.ensures.view,
  ap (λ (claim : Claim). claim.views) c.tell.ensures.claim ∙ c.put.ensures.view,
  omega (arith, c.check_open-open.ensures.steps),
  c.check_open-open.ensures.load,
)
