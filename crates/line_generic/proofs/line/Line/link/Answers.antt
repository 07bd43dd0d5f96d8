use Rattle.std.proofs.Common.{rules, ◌∙◌}
use Rattle.qolb_model.proofs.Answering.{links_queued, links_came}
use Rattle.line_generic.proofs.Turning.{then_to}
use Rattle.line_generic.proofs.Calling.{call_continues, call_belongs, call_seat, call_links, call_links_on}
use Rattle.line_generic.proofs.line.Line.link.Goals as goal

pub accept-accepted-requires-clause-seat : goal.accept-accepted-requires-clause-seat
accept-accepted-requires-clause-seat g c = let q = c.port.inside in call_seat q.seat q.payload q.steps q.poll_count.count c.requires.belongs c.port.view_is c.link.ensures.advances q.node c.port.invariant.node_is

pub returns-then-not-link : goal.returns-then-not-link
returns-then-not-link g c = record {
  belongs = let q = c.port.inside in call_belongs q.seat q.payload q.steps q.poll_count.count c.requires.belongs c.port.view_is c.link.ensures.advances q.payload 1;
  links_up = let q = c.port.inside in
      links_queued (call_continues q.seat q.payload q.steps q.poll_count.count c.requires.belongs c.port.view_is c.link.ensures.advances)
      (call_links g.Q.DisciplineSpec.phases.initial q.seat q.payload q.steps q.poll_count.count c.port.view_is c.link.ensures.links.links) (c.link.ensures.links.queued c.if-not-link.true).1.queued;
  total_steps = search rules;
  poll_count = search rules;
  steps = search rules;
  bound = search rules;
  went_to = search rules;
  keeps_note = search rules;
}

pub invariant_of-port-2 : goal.invariant_of-port-2
invariant_of-port-2 g c = c.accept-accepted.ensures.port c.port.inside.label (c.link.ensures.advances.advances.extends.label ∙ c.port.invariant.label_is)

pub returns : goal.returns
returns g c = record {
  belongs = search rules;
  links_up = let q = c.port.inside in
      links_came (call_continues q.seat q.payload q.steps q.poll_count.count c.requires.belongs c.port.view_is {t = c.accept-accepted.new.seat} (then_to c.link.ensures.advances c.accept-accepted.ensures.more c.accept-accepted.ensures.advances))
      (call_links_on g.Q.DisciplineSpec.phases.initial q.seat q.payload q.steps q.poll_count.count c.port.view_is c.link.ensures.links.links c.accept-accepted.ensures.advances.advances.extends c.accept-accepted.ensures.count) c.accept-accepted.ensures.at_turn;
  total_steps = search rules;
  poll_count = search rules;
  steps = search rules;
  bound = search rules;
  went_to = c.accept-accepted.ensures.went_to (λ e. cc e);
  keeps_note = search rules;
}
