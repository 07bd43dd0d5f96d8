use Rattle.std.proofs.Common.{◌≡◌, ℕ, ◌+◌, ◌-◌, ◌∷◌, [], refl, sym, ap, ◌∙◌, subst, arith}
use Rattle.qolb_model.specs.declared.config.LineConfig.{LineConfig}
use Rattle.line_generic.specs.Steps.{single, SeatAdvances}
use Rattle.line_generic.specs.AtTurn.{Names}
use Rattle.line_generic.proofs.Turning.{put_then}
use Rattle.line_generic.proofs.Releasing.{accepts}
use Rattle.line_generic.proofs.Accepted.{passed_port, seated_goes}
use Rattle.line_generic.proofs.line.Line.accept.Goals as goal

pub returns-then-not-payload-clause-port : goal.returns-then-not-payload-clause-port
returns-then-not-payload-clause-port g c label label_is =
    let y = c.requires.at_turn in
    let same = c.take.ensures.seat.1 in
    let held = accepts g.Q.DisciplineSpec.phases c.args.self.now.table.shared.key.config.nodes c.args.arrival.token c.args.seat.now c.take.new.seat y.0 c.take.new.payload (ap (λ (t : LineConfig). t.nodes) c.requires.seat.sound.config_is) y.2 same (c.take.ensures.copied y.0 y.1) (c.take.ensures.kept y.0 y.1) c.if-not-payload.true in
    record {
      of_one_node = subst (λ es. es ≡ single g.Q.DisciplineSpec.phases.initial es ∷ []) (sym same) c.requires.seat.of_one_node;
      rests_so = λ not. absurd (not refl);
      holds_so = λ _. held.0;
      shows_state = held.1;
      label_is = ap (λ es. (single g.Q.DisciplineSpec.phases.initial es).view.label) same ∙ label_is;
      node_is = ap (λ es. (single g.Q.DisciplineSpec.phases.initial es).view.node) same ∙ c.requires.seat.node_is;
    }

pub returns-clause-seat : goal.returns-clause-seat
returns-clause-seat g c = let released = c.forward_closed-left.ensures in seated_goes c.requires.seat (put_then c.take.ensures.seat released.advances)

pub returns-clause-port : goal.returns-clause-port
returns-clause-port g c label label_is = let released = c.forward_closed-left.ensures in
    passed_port {s = c.args.seat.now} label c.args.arrival.node c.args.arrival.token c.take.new.payload c.forward_closed-left.result.state label_is c.requires.seat.node_is (put_then c.take.ensures.seat released.advances) (released.told, released.not_held)

pub returns-clause-advances : goal.returns-clause-advances
returns-clause-advances g c = let released = c.forward_closed-left.ensures in
    let e : c.forward_closed-left.result.steps ≡ c.args.arrival.steps + c.forward_closed-left.result.steps - c.args.arrival.steps = omega arith in
    subst (SeatAdvances g.K.Keep.allows g.Q.DisciplineSpec.phases.initial c.args.seat.now c.forward_closed-left.new.seat) e (put_then c.take.ensures.seat released.advances)

pub returns-then-not-payload-clause-went_to : goal.returns-then-not-payload-clause-went_to
returns-then-not-payload-clause-went_to g c apart is = absurd (apart is)

pub returns-clause-went_to : goal.returns-clause-went_to
returns-clause-went_to g c apart is = subst (λ (word : ℕ). Names word (g.W.WakePolicy.went_to c.wake.new.note)) c.forward_closed-left.ensures.names_wake_word c.wake.ensures
