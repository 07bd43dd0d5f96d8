use Rattle.std.proofs.Common.{ap, ◌∙◌, arith}
use Rattle.lock_core.specs.Views.{Timely}
use Rattle.qolb_locks.specs.declared.claim.Claim.{Claim}
use Rattle.qolb_locks.proofs.drawing.draw_again.Goals as goal

pub returns-clause-after : goal.returns-clause-after
returns-clause-after c = (
  c.take-seat.result.me.0,
  c.poll-rounds.new.seat.me.0,
  c.take-seat.ensures.view,
  ap (λ (claim : Claim). claim.views) c.settle.ensures.claim ∙ c.put.ensures.view,
  omega (arith, c.draw-ticket.ensures.load, c.poll-rounds.ensures.load),
  λ t.
      let early : Timely c.draw-ticket.new.seat.me.0 = omega (arith, t, c.poll-rounds.ensures.load) in
      let same = c.poll-rounds.ensures.request t in let order = c.draw-ticket.ensures.order early in
      (omega (arith, order.0, same.2), omega (arith, order.1, same.0, same.2), omega (arith, order.2, same.1)),
)

pub returns-clause-steps : goal.returns-clause-steps
returns-clause-steps c = (
  c.take-seat.result.me.0,
  c.poll-rounds.new.seat.me.0,
  c.take-seat.ensures.view,
  ap (λ (claim : Claim). claim.views) c.settle.ensures.claim ∙ c.put.ensures.view,
  omega (arith, c.draw-ticket.ensures.steps, c.poll-rounds.ensures.steps),
  omega (arith, c.draw-ticket.ensures.load, c.poll-rounds.ensures.load),
)
