use Rattle.std.proofs.Common.{ap, ◌∙◌, arith}
use Rattle.lock_core.specs.Views.{Timely}
use Rattle.qolb_locks.specs.declared.claim.Claim.{Claim}
use Rattle.qolb_locks.proofs.drawing.draw_and_check_again.Goals as goal

pub returns-then-to_go-gt0-clause-after : goal.returns-then-to_go-gt0-clause-after
returns-then-to_go-gt0-clause-after c = (
  c.take-seat.result.me.0,
  c.poll-to_go.new.seat.me.0,
  c.take-seat.ensures.view,
  ap (λ (claim : Claim). claim.views) c.settle.ensures.claim ∙ c.put.ensures.view,
  omega (arith, c.draw-ticket.ensures.load, c.poll-to_go.ensures.load),
  λ t.
      let early : Timely c.draw-ticket.new.seat.me.0 = omega (arith, t, c.poll-to_go.ensures.load) in
      let same = c.poll-to_go.ensures.request t in let order = c.draw-ticket.ensures.order early in
      (omega (arith, order.0, same.2), omega (arith, order.1, same.0, same.2), omega (arith, order.2, same.1)),
)

pub returns-then-to_go-gt0-clause-steps : goal.returns-then-to_go-gt0-clause-steps
returns-then-to_go-gt0-clause-steps c = (
  c.take-seat.result.me.0,
  c.poll-to_go.new.seat.me.0,
  c.take-seat.ensures.view,
  ap (λ (claim : Claim). claim.views) c.settle.ensures.claim ∙ c.put.ensures.view,
  omega (arith, c.draw-ticket.ensures.steps, c.poll-to_go.ensures.steps),
  omega (arith, c.draw-ticket.ensures.load, c.poll-to_go.ensures.load),
)

pub returns-clause-after : goal.returns-clause-after
returns-clause-after c = (
  c.take-seat.result.me.0,
  c.check_open-open.new.seat.me.0,
  c.take-seat.ensures.view,
  ap (λ (claim : Claim). claim.views) c.tell.ensures.claim ∙ c.put-2.ensures.view,
  omega (arith, c.draw-ticket.ensures.load, c.poll-to_go.ensures.load, c.check_open-open.ensures.load),
  λ t.
      let later : Timely c.poll-to_go.new.seat.me.0 = omega (arith, t, c.check_open-open.ensures.load) in
      let early : Timely c.draw-ticket.new.seat.me.0 = omega (arith, later, c.poll-to_go.ensures.load) in
      let same = c.poll-to_go.ensures.request later in let order = c.draw-ticket.ensures.order early in
      let kept = c.check_open-open.ensures.kept in
      (omega (arith, order.0, same.2, kept.5), omega (arith, order.1, same.0, same.2, kept.1, kept.5), omega (arith, order.2, same.1, kept.4)),
)

pub returns-clause-steps : goal.returns-clause-steps
returns-clause-steps c = (
  c.take-seat.result.me.0,
  c.check_open-open.new.seat.me.0,
  c.take-seat.ensures.view,
  ap (λ (claim : Claim). claim.views) c.tell.ensures.claim ∙ c.put-2.ensures.view,
  omega (arith, c.draw-ticket.ensures.steps, c.poll-to_go.ensures.steps, c.check_open-open.ensures.steps),
  omega (arith, c.draw-ticket.ensures.load, c.poll-to_go.ensures.load, c.check_open-open.ensures.load),
)
