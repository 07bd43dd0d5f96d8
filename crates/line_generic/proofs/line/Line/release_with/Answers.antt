use Rattle.std.proofs.Common.{rules, ◌∙◌, ◌||◌, ℕ, ap, subst}
use Rattle.line_generic.specs.Steps.{single}
use Rattle.line_generic.specs.AtTurn.{Names}
use Rattle.line_generic.proofs.Turning.{put_then}
use Rattle.line_generic.proofs.Calling.{equal-is_one, call_nodes, holds_of, put_carries, released_with, call_belongs}
use Rattle.line_generic.proofs.line.Line.release_with.Goals as goal

pub release-released-requires : goal.release-released-requires
release-released-requires g c = record {
  seat = search rules;
  mask_fits = search rules;
  of_one_node = search rules;
  nodes = search rules;
  line = let q = c.port.inside in
      put_carries q.seat q.payload q.token q.steps q.poll_count.count q.state c.port.invariant c.port.view_is c.requires.belongs c.requires.state c.args.shut (c.args.shut || c.eq.result) (ap (λ b. c.args.shut || b) (c.eq.ensures ∙ equal-is_one c.port.inside.payload.turns_left)) c.put.new.seat c.put.ensures.seat.0 c.put.ensures.seat.1 c.put.ensures.stored c.requires.allowed;
}

pub invariant_of-port : goal.invariant_of-port
invariant_of-port g c = let q = c.port.inside in let after = c.release-released.ensures.hands_over.in_state q.token in let on = c.release-released.ensures.advances.advances.extends in record {
  of_one_node = after.of_one_node;
  rests_so = λ _. (after.stands, after.slot);
  holds_so = λ e. absurd (c.release-released.ensures.hands_over.not_held e);
  shows_state = after.shows_state;
  label_is = on.label ∙ (ap (λ es. (single g.Q.DisciplineSpec.phases.initial es).view.label) c.put.ensures.seat.1 ∙ c.port.invariant.label_is);
  node_is = on.node ∙ (ap (λ es. (single g.Q.DisciplineSpec.phases.initial es).view.node) c.put.ensures.seat.1 ∙ c.port.invariant.node_is);
}

pub returns : goal.returns
returns g c = record {
  belongs = let q = c.port.inside in
      call_belongs q.seat q.payload q.steps q.poll_count.count c.requires.belongs c.port.view_is {t = c.release-released.new.seat} (put_then c.put.ensures.seat c.release-released.ensures.advances) q.payload c.release-released.result.steps;
  releases = let q = c.port.inside in let back = c.put.ensures.stored in
      released_with q.seat q.payload q.token q.steps q.poll_count.count q.state c.port.invariant c.port.view_is c.requires.belongs c.requires.state c.args.shut (c.args.shut || c.eq.result) (ap (λ b. c.args.shut || b) (c.eq.ensures ∙ equal-is_one c.port.inside.payload.turns_left)) c.put.new.seat c.put.ensures.seat.0 c.put.ensures.seat.1 back
      {t = c.release-released.new.seat} (put_then c.put.ensures.seat c.release-released.ensures.advances) (c.release-released.ensures.hands_over.releases back.0 back.1);
  counts = search rules;
  went_to = subst (λ (word : ℕ). Names word (g.W.WakePolicy.went_to c.wake.new.note)) c.release-released.ensures.names_wake_word c.wake.ensures;
}

pub put-requires : goal.put-requires
put-requires g c = record {
  table = search rules;
  mask_fits = search rules;
  kept = let q = c.port.inside in
      subst (λ (n : ℕ). g.Q.DisciplineSpec.phases.slots_in_turn n q.token q.payload.turns_left q.seat.me.1) (call_nodes g.Q.DisciplineSpec.phases.initial q.seat q.payload q.steps q.poll_count.count c.requires.belongs c.port.view_is)
      (holds_of q.seat q.payload q.token q.steps q.poll_count.count q.state c.port.invariant c.port.view_is c.requires.state).kept;
  left = search rules;
}
