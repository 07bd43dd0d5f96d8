use Rattle.std.proofs.Common.{rules, subst, ◌∙◌, arith}
use Rattle.std.proofs.lemmas.Grind.{common_steps}
use Rattle.line_cells.specs.Array.{ArrayGhost}
use Rattle.line_cells.specs.Steps.{ghost_of, Ended}
use Rattle.line_cells.proofs.Turning.{goes_trans}
use Rattle.line_cells.proofs.Releasing.{lets_on}
use Rattle.line_cells.proofs.Walking.{ended_longer}
use Rattle.ring_line.proofs.Walking.{goes_clear, cleared_entry, cleared_slot, cleared_ended}
use Rattle.ring_line.proofs.release.release.Goals as goal

pub walk-walked-requires : goal.walk-walked-requires
walk-walked-requires g c = record {
  table = search rules;
  point = search rules;
  at_turn = let y = c.requires.payload in
      let slot = cleared_slot c.args.seat.now c.clear.new.seat c.clear.ensures.cleared ∙ y.1 in
      let ended = cleared_ended (ghost_of c.args.seat.now) (ghost_of c.grant-found.new.seat) y.0 (subst (λ (e : ArrayGhost). Ended e (ghost_of c.grant-found.new.seat) y.0) (cleared_entry c.args.seat.now c.clear.new.seat c.clear.ensures.cleared) (c.grant-found.ensures.ended y.0 slot)) in
      omega (arith, ended_longer (ghost_of c.args.seat.now) (ghost_of c.grant-found.new.seat) y.0 ended, c.requires.at_turn, c.cell_after.ensures);
  not_zero = search rules;
  passed = search rules;
  others = search rules;
  first = search rules;
  nodes = search rules;
  payload = search rules;
}

pub returns-then-is_withdrawn : goal.returns-then-is_withdrawn
returns-then-is_withdrawn g c = record {
  no_slot = search rules;
  advances = record {
    seat = search rules;
    advances = goes_trans g.K.Keep.allows c.args.seat.now.me c.grant-found.new.seat.me c.walk-walked.new.seat.me 2 c.walk-walked.result.steps
        (goes_trans g.K.Keep.allows c.args.seat.now.me c.clear.new.seat.me c.grant-found.new.seat.me 1 1 (goes_clear g.K.Keep.allows c.args.seat.now.me c.clear.new.seat.me c.clear.ensures.cleared) c.grant-found.ensures.advances.advances)
        c.walk-walked.ensures.advances.advances;
  };
  releases = λ y slot.
      let ended = cleared_ended (ghost_of c.args.seat.now) (ghost_of c.grant-found.new.seat) y (subst (λ (e : ArrayGhost). Ended e (ghost_of c.grant-found.new.seat) y) (cleared_entry c.args.seat.now c.clear.new.seat c.clear.ensures.cleared) (c.grant-found.ensures.ended y (cleared_slot c.args.seat.now c.clear.new.seat c.clear.ensures.cleared ∙ slot))) in
      lets_on (ghost_of c.args.seat.now) (ghost_of c.grant-found.new.seat) (ghost_of c.walk-walked.new.seat) y c.requires.none_passed ended c.walk-walked.ensures.advances.advances.extends c.walk-walked.ensures.finishes_walk;
  granted = search rules;
  steps = let y = c.requires.payload in
      let slot = cleared_slot c.args.seat.now c.clear.new.seat c.clear.ensures.cleared ∙ y.1 in
      let ended = cleared_ended (ghost_of c.args.seat.now) (ghost_of c.grant-found.new.seat) y.0 (subst (λ (e : ArrayGhost). Ended e (ghost_of c.grant-found.new.seat) y.0) (cleared_entry c.args.seat.now c.clear.new.seat c.clear.ensures.cleared) (c.grant-found.ensures.ended y.0 slot)) in
      omega (arith, ended_longer (ghost_of c.args.seat.now) (ghost_of c.grant-found.new.seat) y.0 ended, c.walk-walked.ensures.steps);
  bound = search rules;
}

pub returns-else-is_withdrawn : goal.returns-else-is_withdrawn
returns-else-is_withdrawn g c =
    let y = c.requires.payload in
    let slot = cleared_slot c.args.seat.now c.clear.new.seat c.clear.ensures.cleared ∙ y.1 in
    let ended = cleared_ended (ghost_of c.args.seat.now) (ghost_of c.grant-found.new.seat) y.0 (subst (λ (e : ArrayGhost). Ended e (ghost_of c.grant-found.new.seat) y.0) (cleared_entry c.args.seat.now c.clear.new.seat c.clear.ensures.cleared) (c.grant-found.ensures.ended y.0 slot)) in
    let longer = ended_longer (ghost_of c.args.seat.now) (ghost_of c.grant-found.new.seat) y.0 ended in record {
      no_slot = search rules;
      advances = record {
        seat = search rules;
        advances = goes_trans g.K.Keep.allows c.args.seat.now.me c.clear.new.seat.me c.grant-found.new.seat.me 1 1 (goes_clear g.K.Keep.allows c.args.seat.now.me c.clear.new.seat.me c.clear.ensures.cleared) c.grant-found.ensures.advances.advances;
      };
      releases = grind (arith, common_steps);
      -- the request at its turn is now the next one
      granted = omega (arith, longer, c.requires.at_turn, c.cell_after-else-is_withdrawn.ensures);
      steps = omega (arith, longer);
      bound = search rules;
    }
