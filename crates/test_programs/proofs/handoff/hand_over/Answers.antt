use Rattle.std.proofs.Common.{ap, sym, subst, refl, ◌∙◌}
use Rattle.line_lanes.specs.declared.line.Line64.{Line64}
use Rattle.qolb_model.specs.declared.write.Write.{Write}
use Rattle.qolb_model.specs.Views.{Extends}
use Rattle.qolb_model.specs.AtTurn.{IsGranted}
use Rattle.test_programs.proofs.HandedOver.{handed_over}
use Rattle.test_programs.proofs.handoff.hand_over.Goals as goal

pub returns-clause-hands_over : goal.returns-clause-hands_over
returns-clause-hands_over g c =
    let view = g.L.LineSync.view in
    let line = c.args.line.now in
    let granted : IsGranted (g.L.LineSync.view c.poll.new.port) (g.L.LineSync.turn c.poll.new.port) = c.in-Granted-poll.ensures.polls.granted refl in
    handed_over (view c.args.one.now) (view c.write.new.port) (view c.deqolb.new.port) (view c.meet.new.a) (view c.poll.new.port) (g.L.LineSync.config_of line) c.bytes-released.result.now.bytes c.bytes-seen.result.now.bytes
    (subst (Extends (view c.args.one.now)) (sym c.write.ensures.view) c.in-Granted.ensures.enqueues.continues.extends)
    c.deqolb.ensures.releases.continues.extends
    c.meet.ensures.tell.continues_a.extends
    (ap (λ (x : Line64). x.bytes) c.bytes-released.ensures.bytes ∙ sym c.deqolb.ensures.releases.bytes)
    (ap (λ (x : Line64). x.bytes) c.bytes-seen.ensures.bytes ∙ (ap (λ (w : Write). w.bytes.bytes) c.meet.ensures.turn_b ∙ granted.bytes))
    c.meet.ensures.tell.before granted.state granted.at_turn c.meet.ensures.tell.meets_a
    (g.met.L.LineSync.sound line c.meet.new.a c.meet.ensures.belongs_a).config_is
    (g.met.L.LineSync.sound line c.poll.new.port c.in-Granted-poll.ensures.belongs).config_is

pub deqolb-requires-clause-belongs : goal.deqolb-requires-clause-belongs
deqolb-requires-clause-belongs g c = c.write.ensures.belongs c.args.line.now c.in-Granted.ensures.belongs
