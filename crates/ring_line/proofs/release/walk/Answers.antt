use Rattle.std.proofs.Common.{rules, refl, sym, subst, ap, arith, ◌≡◌, ◌≢◌, ◌∙◌, ◌++◌, ◌∷◌, [], ℕ, List, length}
use Rattle.std.proofs.lemmas.Grind.{common_steps}
use Rattle.qolb_model.specs.declared.end.End.{End}
use Rattle.ring_line.specs.Layout.{cell_of}
use Rattle.line_cells.specs.Steps.{ghost_of}
use Rattle.line_cells.specs.SlotLayout.{one_slot}
use Rattle.line_cells.proofs.Turning.{goes_none}
use Rattle.line_cells.proofs.Walking.{walk_begins, stands_first, walked_steps, walk_over}
use Rattle.ring_line.specs.Layout.{withdrawn_by}
use Rattle.ring_line.proofs.Walking.{IsWalking, walk_carries, walk_step}
use Rattle.ring_line.proofs.release.walk.Goals as goal

pub loop-passed-init : goal.loop-passed-init
loop-passed-init g c = subst (λ (nodes : List ℕ). IsWalking g.K.Keep.allows c.args.seat.now nodes c.args.cell c.args.found c.args.seat.now) (sym c.new-passed.ensures) (record {
  cell_is = c.requires.at_turn;
  walking = record {
    seat = (refl, refl);
    advances = goes_none g.K.Keep.allows c.args.seat.now.me c.requires.point.0;
    walked = walk_begins (ghost_of c.args.seat.now) c.requires.passed c.requires.others c.requires.nodes.0;
    stands = λ more. ((λ x slot. slot), stands_first (ghost_of c.args.seat.now) (withdrawn_by c.args.found) c.requires.point.1 c.requires.passed c.requires.first);
    home = λ none. absurd (c.requires.not_zero none);
  };
})

pub grant-found-requires-clause-payload : goal.grant-found-requires-clause-payload
grant-found-requires-clause-payload g c =
    let more : c.loop-passed.found ≢ 0 = search rules in
    let y = c.requires.payload in
    let all = walk_carries g.K.Keep.allows c.args.seat.now c.loop-passed.seat c.clear.new.seat c.loop-passed.passed.items c.loop-passed.cell c.loop-passed.found y.0 c.loop-passed.invariant more c.clear.ensures.cleared y.1 y.2 in
    (y.0, all.0, all.1)

pub loop-passed-preserved : goal.loop-passed-preserved
loop-passed-preserved g c =
    let more : c.loop-passed.found ≢ 0 = search rules in
    let y = c.requires.payload in
    subst (λ (nodes : List ℕ). IsWalking g.K.Keep.allows c.args.seat.now nodes c.cell_after-cell.result c.grant-found.result c.grant-found.new.seat) (sym (c.push.ensures.items ∙ ap (λ (n : ℕ). c.loop-passed.passed.items ++ n ∷ []) c.withdrawn_by.ensures))
    (walk_step g.K.Keep.allows c.args.seat.now c.loop-passed.seat c.clear.new.seat c.grant-found.new.seat c.loop-passed.passed.items c.loop-passed.cell c.loop-passed.found c.cell_after-cell.result c.grant-found.result y.0 c.loop-passed.invariant more
    c.requires.nodes.1 c.clear.ensures.seat c.clear.ensures.cleared y.1 y.3 c.grant-found.ensures.advances.seat c.grant-found.ensures.advances.advances c.grant-found.ensures.ended c.grant-found.ensures.handed_over c.grant-found.ensures.passes c.cell_after-cell.ensures)

pub returns : goal.returns
returns g c = record {
  no_slot = search rules;
  advances = record {
    seat = search rules;
    advances = walked_steps one_slot g.K.Keep.allows c.args.seat.now c.loop-passed.seat c.free_passed.new.seat c.loop-passed.passed.items _ c.loop-passed.found _ _ _ c.loop-passed.invariant.walking c.free_passed.ensures.advances.advances (ap length (search rules)) (omega arith);
  };
  finishes_walk = let done : c.loop-passed.found ≡ 0 = search rules in
      walk_over (ghost_of c.args.seat.now) (ghost_of c.loop-passed.seat) (ghost_of c.free_passed.new.seat) c.loop-passed.passed.items c.loop-passed.invariant.walking.walked (c.loop-passed.invariant.walking.home done).1 c.free_passed.ensures.frees;
  granted = c.loop-passed.invariant.cell_is ∙ ap (λ (es : List End). cell_of (length es)) (sym c.free_passed.ensures.frees.ends);
  steps = grind (arith, common_steps);
  bound = search rules;
}
