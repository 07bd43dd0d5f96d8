use Rattle.std.proofs.Common.{rules, ◌∙◌}
use Rattle.qolb_model.proofs.Answering.{withdraws_withdrawn, withdraws_came}
use Rattle.line_generic.specs.Steps.{ghost_of}
use Rattle.line_generic.proofs.Turning.{then_to}
use Rattle.line_generic.proofs.Calling.{call_continues, call_belongs, call_seat, same_count}
use Rattle.line_generic.proofs.calls.LineLineSync.withdraw.Goals as goal

pub accept-accepted-requires-clause-seat : goal.accept-accepted-requires-clause-seat
accept-accepted-requires-clause-seat g c = let q = c.port.inside in call_seat q.seat q.payload q.steps q.poll_count.count c.requires.belongs c.port.view_is c.roll.ensures.advances q.node c.port.invariant.node_is

pub returns-then-not-roll : goal.returns-then-not-roll
returns-then-not-roll g c = record {
  belongs = let q = c.port.inside in call_belongs q.seat q.payload q.steps q.poll_count.count c.requires.belongs c.port.view_is c.roll.ensures.advances q.payload 1;
  withdraws = let q = c.port.inside in
      withdraws_withdrawn (call_continues q.seat q.payload q.steps q.poll_count.count c.requires.belongs c.port.view_is c.roll.ensures.advances)
      (same_count g.Q.DisciplineSpec.phases.initial (ghost_of g.Q.DisciplineSpec.phases.initial c.roll.new.seat).view q.seat q.payload q.steps q.poll_count.count c.port.view_is c.roll.ensures.rolls.count) (c.roll.ensures.rolls.withdrawn c.if-not-roll.true).1.withdrawn;
  counts = search rules;
  token = search rules;
  went_to = search rules;
  keeps_note = search rules;
}

pub invariant_of-port-2 : goal.invariant_of-port-2
invariant_of-port-2 g c = c.accept-accepted.ensures.port c.port.inside.label (c.roll.ensures.advances.advances.extends.label ∙ c.port.invariant.label_is)

pub returns : goal.returns
returns g c = record {
  belongs = search rules;
  withdraws = let q = c.port.inside in
      withdraws_came (call_continues q.seat q.payload q.steps q.poll_count.count c.requires.belongs c.port.view_is {t = c.accept-accepted.new.seat} (then_to c.roll.ensures.advances c.accept-accepted.ensures.more c.accept-accepted.ensures.advances))
      (same_count g.Q.DisciplineSpec.phases.initial (ghost_of g.Q.DisciplineSpec.phases.initial c.accept-accepted.new.seat).view q.seat q.payload q.steps q.poll_count.count c.port.view_is (c.accept-accepted.ensures.count ∙ c.roll.ensures.rolls.count)) c.accept-accepted.ensures.at_turn;
  counts = search rules;
  token = search rules;
  went_to = c.accept-accepted.ensures.went_to (λ e. cc e);
  keeps_note = search rules;
}
