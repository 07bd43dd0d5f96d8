use Rattle.std.proofs.Common.{rules, ◌∙◌}
use Rattle.qolb_model.proofs.Answering.{enqueues_busy, enqueues_queued, enqueues_came}
use Rattle.qolb_model.proofs.Going.{joined_goes}
use Rattle.line_generic.specs.Steps.{ghost_of}
use Rattle.line_generic.proofs.Turning.{then_to}
use Rattle.line_generic.proofs.Calling.{came_asked, behind_asked, call_continues, call_belongs, call_seat, call_busy, call_asks, call_asks_on}
use Rattle.line_generic.proofs.calls.LineLineSync.enqolb.Goals as goal

pub accept-accepted-requires-clause-seat : goal.accept-accepted-requires-clause-seat
accept-accepted-requires-clause-seat g c = let q = c.port.inside in call_seat q.seat q.payload q.steps q.poll_count.count c.requires.belongs c.port.view_is c.ask-made.ensures.advances q.node c.port.invariant.node_is

pub accept-accepted-requires-clause-at_turn : goal.accept-accepted-requires-clause-at_turn
accept-accepted-requires-clause-at_turn g c = c.ask-made.ensures.request.at_turn c.in-AtTurn.is

pub returns-in-Busy : goal.returns-in-Busy
returns-in-Busy g c = record {
  belongs = let q = c.port.inside in call_belongs q.seat q.payload q.steps q.poll_count.count c.requires.belongs c.port.view_is c.ask-made.ensures.advances q.payload c.ask-made.result.steps;
  enqueues = let q = c.port.inside in
      enqueues_busy (call_continues q.seat q.payload q.steps q.poll_count.count c.requires.belongs c.port.view_is c.ask-made.ensures.advances) (call_busy g.Q.DisciplineSpec.phases.initial q.seat q.payload q.steps q.poll_count.count c.port.view_is (c.ask-made.ensures.request.busy c.in-Busy.is));
  counts = search rules;
  went_to = search rules;
  keeps_note = search rules;
}

pub returns-in-Queued : goal.returns-in-Queued
returns-in-Queued g c = record {
  belongs = let q = c.port.inside in call_belongs q.seat q.payload q.steps q.poll_count.count c.requires.belongs c.port.view_is c.ask-made.ensures.advances q.payload c.ask-made.result.steps;
  enqueues = let q = c.port.inside in
      enqueues_queued (call_continues q.seat q.payload q.steps q.poll_count.count c.requires.belongs c.port.view_is c.ask-made.ensures.advances)
      (call_asks g.Q.DisciplineSpec.phases.initial q.seat q.payload q.steps q.poll_count.count c.port.view_is (c.ask-made.ensures.request.asks (behind_asked c.in-Queued.is))) (c.ask-made.ensures.request.joined (behind_asked c.in-Queued.is)) (c.ask-made.ensures.request.queued c.in-Queued.is).1.queued;
  counts = search rules;
  went_to = search rules;
  keeps_note = search rules;
}

pub invariant_of-port-in-AtTurn : goal.invariant_of-port-in-AtTurn
invariant_of-port-in-AtTurn g c = c.accept-accepted.ensures.port c.port.inside.label (c.ask-made.ensures.advances.advances.extends.label ∙ c.port.invariant.label_is)

pub returns-in-AtTurn : goal.returns-in-AtTurn
returns-in-AtTurn g c = record {
  belongs = search rules;
  enqueues = let q = c.port.inside in let more = c.accept-accepted.ensures.advances.advances.extends in
      enqueues_came (call_continues q.seat q.payload q.steps q.poll_count.count c.requires.belongs c.port.view_is {t = c.accept-accepted.new.seat} (then_to c.ask-made.ensures.advances c.accept-accepted.ensures.more c.accept-accepted.ensures.advances))
      (call_asks_on g.Q.DisciplineSpec.phases.initial q.seat q.payload q.steps q.poll_count.count c.port.view_is (c.ask-made.ensures.request.asks (came_asked c.in-AtTurn.is)) more c.accept-accepted.ensures.count)
      (joined_goes (ghost_of g.Q.DisciplineSpec.phases.initial c.ask-made.new.seat).view (ghost_of g.Q.DisciplineSpec.phases.initial c.accept-accepted.new.seat).view (c.ask-made.ensures.request.joined (came_asked c.in-AtTurn.is)) more c.accept-accepted.ensures.count) c.accept-accepted.ensures.at_turn;
  counts = search rules;
  went_to = c.accept-accepted.ensures.went_to (λ e. cc e);
  keeps_note = search rules;
}
