use Rattle.std.proofs.Common.{sym, subst, ap, ◌∙◌, ◌+◌, ◌<◌, ℕ, List, length, arith}
use Rattle.link_line.specs.declared.release.Handoff.{Handoff}
use Rattle.link_line.specs.Layout.{word_count}
use Rattle.link_line.specs.Steps.{ghost_of, Advances}
use Rattle.qolb_model.specs.declared.config.LineConfig.{LineConfig}
use Rattle.link_line.proofs.Stepping.{goes_trans}
use Rattle.link_line.proofs.Walking.{IsWalking, walking_on, walk_over, walked_long, away_by, names_away, turn_stays}
use Rattle.link_line.proofs.release.walk.Goals as goal

pub loop-handoff-preserved : goal.loop-handoff-preserved
loop-handoff-preserved g c =
    let on = c.try_handoff-handoff.ensures.outcome in
    let was = subst (λ (h : Handoff). IsWalking g.K.Keep.allows c.args.seat.now c.args.steps c.loop-handoff.passed.items h c.loop-handoff.seat c.loop-handoff.steps) c.in-Passed.is c.loop-handoff.invariant.0 in (
      subst (λ (nodes : List ℕ). IsWalking g.K.Keep.allows c.args.seat.now c.args.steps nodes c.try_handoff-handoff.result c.try_handoff-handoff.new.seat c.try_handoff-handoff.new.steps) (sym c.push.ensures.items)
          (walking_on g.K.Keep.allows c.args.seat.now c.loop-handoff.seat c.try_handoff-handoff.new.seat c.args.steps c.loop-handoff.passed.items c.in-Passed.node c.loop-handoff.steps c.try_handoff-handoff.new.steps on.0 c.try_handoff-handoff.result was c.requires.payload c.requires.state c.try_handoff-handoff.ensures.seat on.1 on.2 on.3),
      c.try_handoff-handoff.ensures.within,
      c.try_handoff-handoff.ensures.names_wake_word,
    )

pub returns : goal.returns
returns g c =
    let k = c.loop-handoff.invariant.0 in
    let away = away_by g.K.Keep.allows c.args.seat.now c.loop-handoff.seat c.args.steps c.loop-handoff.passed.items c.loop-handoff.handoff c.loop-handoff.steps c.in_default.not-Passed k in
    let freed : Advances g.K.Keep.allows c.loop-handoff.seat.me c.free_passed.new.seat.me (length c.loop-handoff.passed.items) = subst (Advances g.K.Keep.allows c.loop-handoff.seat.me c.free_passed.new.seat.me) (ap length c.deref.ensures.0) c.free_passed.ensures.advances.advances in
    record {
      seat = (c.free_passed.ensures.advances.seat.0 ∙ k.seat.0, c.free_passed.ensures.advances.seat.1 ∙ k.seat.1);
      no_slot = c.free_passed.ensures.keeps_slot ∙ away.0;
      advances = (k.taken + length c.loop-handoff.passed.items, omega (arith, k.steps_are, c.len.ensures.value), goes_trans g.K.Keep.allows c.args.seat.now.me c.loop-handoff.seat.me c.free_passed.new.seat.me k.taken (length c.loop-handoff.passed.items) k.advances freed);
      finishes_walk = walk_over (ghost_of c.args.seat.now) (ghost_of c.loop-handoff.seat) (ghost_of c.free_passed.new.seat) c.loop-handoff.passed.items k.walked away.1 c.free_passed.ensures.frees;
      steps = (
        k.taken + length c.loop-handoff.passed.items,
        omega (arith, k.steps_are, c.len.ensures.value),
        omega (arith, walked_long (ghost_of c.args.seat.now) (ghost_of c.loop-handoff.seat) (ghost_of c.free_passed.new.seat) c.loop-handoff.passed.items k.walked c.free_passed.ensures.frees, away.3),
        omega (arith, walked_long (ghost_of c.args.seat.now) (ghost_of c.loop-handoff.seat) (ghost_of c.free_passed.new.seat) c.loop-handoff.passed.items k.walked c.free_passed.ensures.frees, away.4),
      );
      within = subst (λ word. word < word_count c.args.table.now.key.config.nodes) (sym c.granted-word.ensures) c.loop-handoff.invariant.1;
      names_wake_word = c.granted-word.ensures ∙ names_away (ghost_of c.loop-handoff.seat) c.loop-handoff.handoff c.in_default.not-Passed c.loop-handoff.invariant.2 ∙ sym (turn_stays (ghost_of c.loop-handoff.seat) (ghost_of c.free_passed.new.seat) c.free_passed.ensures.frees);
      bound = omega (arith, k.steps_are, c.len.ensures.value, away.2);
    }

pub try_handoff-handoff-requires-clause-in_range : goal.try_handoff-handoff-requires-clause-in_range
try_handoff-handoff-requires-clause-in_range g c =
    let was = subst (λ (h : Handoff). IsWalking g.K.Keep.allows c.args.seat.now c.args.steps c.loop-handoff.passed.items h c.loop-handoff.seat c.loop-handoff.steps) c.in-Passed.is c.loop-handoff.invariant.0 in
    let high = was.stands.1.high in
    (high.0, omega (arith, high.1, ap (λ (t : LineConfig). t.nodes) was.walked.config, c.requires.knows_nodes))

pub try_handoff-handoff-requires-clause-knows_nodes : goal.try_handoff-handoff-requires-clause-knows_nodes
try_handoff-handoff-requires-clause-knows_nodes g c = ap (λ (t : LineConfig). t.nodes) c.loop-handoff.invariant.0.walked.config ∙ c.requires.knows_nodes

pub free_passed-requires-clause-knows_nodes : goal.free_passed-requires-clause-knows_nodes
free_passed-requires-clause-knows_nodes g c = ap (λ (t : LineConfig). t.nodes) c.loop-handoff.invariant.0.walked.config ∙ c.requires.knows_nodes
