use Rattle.std.proofs.Common.{rules, ◌≡◌, ℕ, ◌+◌, ◌∙◌, List, ap, sym, subst, ⊎_elim, arith}
use Rattle.qolb_model.specs.declared.answer.PortState.{PortState}
use Rattle.qolb_model.specs.declared.config.LineConfig.{LineConfig}
use Rattle.qolb_model.specs.PortStates.{state_after}
use Rattle.line_generic.specs.declared.table.Payload.{Payload}
use Rattle.link_line.specs.Steps.{LinkSeat, ghost_of, Advances}
use Rattle.link_line.specs.Releases.{ReleasesLine}
use Rattle.link_line.proofs.Stepping.{goes_trans}
use Rattle.link_line.proofs.Released.{one_more, lets_out, lets_left, lets_on, walk_nodes, same_slot}
use Rattle.link_line.proofs.release.release.Goals as goal

-- steps that are counted from 0 on
after_none : {allows : List ℕ → List ℕ → Type 0} (s t : LinkSeat) (n steps : ℕ) → steps ≡ 0 + n → Advances allows s.me t.me n → Advances allows s.me t.me steps
after_none {allows} s t n steps is goes = let e : n ≡ steps = omega (arith, is) in subst (Advances allows s.me t.me) e goes

pub walk-walked-requires : goal.walk-walked-requires
walk-walked-requires g c = record {
  table = search rules;
  point = search rules;
  in_range = let y = c.requires.payload in
      let on = c.in-Passed.ensures.outcome in
      let within = (on.3 y.0 y.1).4 in
      let size : (ghost_of c.try_handoff-handoff.new.seat).view.config.nodes ≡ (ghost_of c.args.seat.now).view.config.nodes = ap (λ (t : LineConfig). t.nodes) on.2.extends.config in
      (within.0, omega (arith, within.1, size, c.requires.seat.1.3));
  passed = search rules;
  others = search rules;
  first = search rules;
  nodes = let y = c.requires.payload in
      let on = c.in-Passed.ensures.outcome in
      let passes = (on.3 y.0 y.1).2 in
      (walk_nodes (ghost_of c.args.seat.now) (ghost_of c.try_handoff-handoff.new.seat) y.0 c.in-Passed.first c.requires.none_passed passes, omega (arith, c.requires.nodes.1, ap (λ (t : LineConfig). t.nodes) on.2.extends.config));
  knows_nodes = ap (λ (t : LineConfig). t.nodes) c.in-Passed.ensures.outcome.2.extends.config ∙ c.requires.seat.1.3;
  no_overflow = search rules;
  payload = search rules;
  state = search rules;
}

pub returns-in-HandedOver : goal.returns-in-HandedOver
returns-in-HandedOver g c = record {
  no_slot = search rules;
  advances = record {
    seat = search rules;
    advances = let on = c.in-HandedOver.ensures.outcome in after_none c.args.seat.now c.try_handoff-handoff.new.seat on.0 c.try_handoff-handoff.new.steps on.1 on.2;
  };
  releases = λ y slot. let own = c.requires.payload in
      let on = c.in-HandedOver.ensures.outcome.3 y slot in
      let closed = ap (λ (z : Payload). state_after z.closed) (same_slot c.args.seat.now.me.1 y own.0 slot own.1) ∙ ap state_after own.3 in
      subst (λ (state : PortState). ReleasesLine (ghost_of c.args.seat.now) y state (ghost_of c.try_handoff-handoff.new.seat)) (closed ∙ sym c.state_after.ensures) (lets_out (ghost_of c.args.seat.now) y c.requires.none_passed (ghost_of c.try_handoff-handoff.new.seat) on.1 on.2);
  steps = let y = c.requires.payload in
      let on = c.in-HandedOver.ensures.outcome in
      let away = on.3 y.0 y.1 in
      let one = one_more (ghost_of c.args.seat.now) y.0 c.requires.none_passed (ghost_of c.try_handoff-handoff.new.seat) away.1 in
      (⊎_elim (λ k. omega (arith, k, one, on.1)) (λ k. omega (arith, k.0, one, on.1)) away.3, ⊎_elim (λ k. omega (arith, k, one, on.1)) (λ k. omega (arith, k.0, one, on.1)) away.3);
  unpark = search rules;
  names_wake_word = search rules;
  bound = search rules;
}

pub returns-in-Left : goal.returns-in-Left
returns-in-Left g c = record {
  no_slot = search rules;
  advances = record {
    seat = search rules;
    advances = let on = c.in-Left.ensures.outcome in after_none c.args.seat.now c.try_handoff-handoff.new.seat on.0 c.try_handoff-handoff.new.steps on.1 on.2;
  };
  releases = λ y slot. let on = c.in-Left.ensures.outcome.3 y slot in
      lets_left (ghost_of c.args.seat.now) y c.requires.none_passed (ghost_of c.try_handoff-handoff.new.seat) on.1 on.2;
  steps = let y = c.requires.payload in
      let on = c.in-Left.ensures.outcome in
      let left = on.3 y.0 y.1 in
      let one = one_more (ghost_of c.args.seat.now) y.0 c.requires.none_passed (ghost_of c.try_handoff-handoff.new.seat) left.1 in
      (omega (arith, left.3, one, on.1), omega (arith, left.3, one, on.1));
  unpark = search rules;
  names_wake_word = search rules;
  bound = search rules;
}

pub returns-in-Passed : goal.returns-in-Passed
returns-in-Passed g c = record {
  no_slot = search rules;
  advances = record {
    seat = search rules;
    advances = let on = c.in-Passed.ensures.outcome in
        let walked = c.walk-walked.ensures.advances in
        after_none c.args.seat.now c.walk-walked.new.seat (on.0 + walked.0) c.walk-walked.result.steps (omega (arith, on.1, walked.1)) (goes_trans g.K.Keep.allows c.args.seat.now.me c.try_handoff-handoff.new.seat.me c.walk-walked.new.seat.me on.0 walked.0 on.2 walked.2);
  };
  releases = λ y slot. let own = c.requires.payload in
      let on = c.in-Passed.ensures.outcome.3 y slot in
      let closed = ap (λ (z : Payload). state_after z.closed) (same_slot c.args.seat.now.me.1 y own.0 slot own.1) ∙ ap state_after own.3 in
      subst (λ (state : PortState). ReleasesLine (ghost_of c.args.seat.now) y state (ghost_of c.walk-walked.new.seat)) (closed ∙ sym c.state_after-in-Passed.ensures)
      (lets_on (ghost_of c.args.seat.now) y c.requires.none_passed (ghost_of c.try_handoff-handoff.new.seat) (ghost_of c.walk-walked.new.seat) c.in-Passed.first on.1 on.2 c.walk-walked.ensures.advances.2.extends c.walk-walked.ensures.finishes_walk);
  steps = let y = c.requires.payload in
      let on = c.in-Passed.ensures.outcome in
      let passed = on.3 y.0 y.1 in
      let one = one_more (ghost_of c.args.seat.now) y.0 c.requires.none_passed (ghost_of c.try_handoff-handoff.new.seat) passed.1 in
      let walked = c.walk-walked.ensures.steps in
      (omega (arith, passed.3, one, on.1, walked.1, walked.2), omega (arith, passed.3, one, on.1, walked.1, walked.3));
  unpark = search rules;
  names_wake_word = search rules;
  bound = search rules;
}
