use Rattle.std.proofs.Common.{rules, arith, ◌≡◌, ◌∙◌, sym}
use Rattle.line_generic.specs.declared.discipline.Enqueued.TheVariants as enqueued
use Rattle.qolb_model.proofs.Going.{asks_goes}
use Rattle.link_line.specs.Steps.{ghost_of}
use Rattle.link_line.proofs.Stepping.{goes_trans, seat_goes}
use Rattle.link_line.proofs.discipline.LinkQueueDiscipline.ask.Goals as goal
use Rattle.link_line.proofs.discipline.LinkQueueDiscipline.ask.Goals.{then-is_at_turn, else-is_at_turn}

pub returns-then-ne : goal.returns-then-ne
returns-then-ne g c = record {
  advances = search rules;
  request = record {
    stays = search rules;
    busy = search rules;
    asks = search rules;
    joined = search rules;
    queued = search rules;
    at_turn = λ is_at_turn. let e = c.request-made.ensures.at_turn is_at_turn in (e.0, e.1, e.2 c.request-made.result.token);
  };
  steps = search rules;
}

pub returns : goal.returns
returns g c = record {
  advances = record {
    seat = (c.link-is_at_turn.ensures.advances.seat.0 ∙ c.request-made.ensures.advances.seat.0, c.link-is_at_turn.ensures.advances.seat.1 ∙ c.request-made.ensures.advances.seat.1);
    advances = goes_trans g.K.Keep.allows c.args.seat.now.me c.request-made.new.seat.me c.link-is_at_turn.new.seat.me c.request-made.result.steps 1 c.request-made.ensures.advances.advances c.link-is_at_turn.ensures.advances.advances;
  };
  request = record {
    stays = search rules;
    busy = search rules;
    asks = λ _.
        let behind : c.request-made.result.answer ≡ enqueued.Queued = search rules in
        asks_goes (ghost_of c.args.seat.now).view (ghost_of c.request-made.new.seat).view (ghost_of c.link-is_at_turn.new.seat).view (c.request-made.ensures.asks (λ busy. let z : enqueued.Queued ≡ enqueued.Busy = sym behind ∙ busy in cc))
        c.link-is_at_turn.ensures.advances.advances.extends c.link-is_at_turn.ensures.links.count;
    joined = λ _. c.link-is_at_turn.ensures.links.joined;
    queued = λ behind. elim c.if-is_at_turn.branch [
      | then-is_at_turn w ↦ absurd (let z : enqueued.Queued ≡ enqueued.AtTurn = sym behind ∙ w.result-is in cc)
      | else-is_at_turn w ↦ let e = c.link-is_at_turn.ensures.queued w.if-is_at_turn.false in (e.0, e.1 c.request-made.result.token)
    ];
    at_turn = λ is_at_turn. elim c.if-is_at_turn.branch [
      | then-is_at_turn w ↦ let e = c.link-is_at_turn.ensures.at_turn w.if-is_at_turn.true in (e.0, e.1, e.2 c.request-made.result.token)
      | else-is_at_turn w ↦ absurd (let z : enqueued.AtTurn ≡ enqueued.Queued = sym is_at_turn ∙ w.result-is in cc)
    ];
  };
  steps = search rules;
}

pub link-is_at_turn-requires-clause-seat : goal.link-is_at_turn-requires-clause-seat
link-is_at_turn-requires-clause-seat g c = seat_goes c.args.seat.now c.request-made.new.seat c.request-made.ensures.advances c.requires.seat

pub link-is_at_turn-requires-clause-in_range : goal.link-is_at_turn-requires-clause-in_range
link-is_at_turn-requires-clause-in_range g c =
    let behind : c.request-made.result.answer ≡ enqueued.Queued = search rules in
    let high = (c.request-made.ensures.must_link behind).1.stands.1 in
    let seat = seat_goes c.args.seat.now c.request-made.new.seat c.request-made.ensures.advances c.requires.seat in
    (high.0, omega (arith, high.1, seat.1.3))
