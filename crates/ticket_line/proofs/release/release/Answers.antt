use Rattle.std.proofs.Common.{rules, arith, subst, sym, ap, ◌∙◌, length}
use Rattle.std.proofs.lemmas.Grind.{common_steps}
use Rattle.qolb_model.specs.declared.config.LineConfig.{LineConfig}
use Rattle.line_cells.specs.Steps.{ghost_of}
use Rattle.ticket_line.specs.Steps.{SlotsAtRelease}
use Rattle.line_cells.proofs.Turning.{goes_trans}
use Rattle.line_cells.proofs.Releasing.{lets_on}
use Rattle.line_cells.proofs.Walking.{ended_longer}
use Rattle.line_cells.specs.Layout.{ticket_of}
use Rattle.ticket_line.specs.Layout.{ticket_after}
use Rattle.ticket_line.proofs.Numbers.{ticket_next}
use Rattle.ticket_line.proofs.release.release.Goals as goal

pub returns-then-node-ne0 : goal.returns-then-node-ne0
returns-then-node-ne0 g c = record {
  no_slot = search rules;
  advances = record {
    seat = search rules;
    advances = goes_trans g.K.Keep.allows c.args.seat.now.me c.grant-node.new.seat.me c.walk-walked.new.seat.me 1 c.walk-walked.result.steps c.grant-node.ensures.advances.advances c.walk-walked.ensures.advances.advances;
  };
  releases = λ y slot. lets_on (ghost_of c.args.seat.now) (ghost_of c.grant-node.new.seat) (ghost_of c.walk-walked.new.seat) y c.requires.none_passed (c.grant-node.ensures.ended y (subst (λ n. SlotsAtRelease c.args.table.now.key.config.nodes n c.args.seat.now y) c.requires.ticket slot)) c.walk-walked.ensures.advances.advances.extends c.walk-walked.ensures.finishes_walk;
  granted = search rules;
  steps = let y = c.requires.payload in omega (arith, ended_longer (ghost_of c.args.seat.now) (ghost_of c.grant-node.new.seat) y.0 (c.grant-node.ensures.ended y.0 (subst (λ n. SlotsAtRelease c.args.table.now.key.config.nodes n c.args.seat.now y.0) c.requires.ticket y.1)), c.walk-walked.ensures.steps);
  bound = search rules;
}

pub returns-else-node-ne0 : goal.returns-else-node-ne0
returns-else-node-ne0 g c = record {
  no_slot = search rules;
  advances = search rules;
  releases = grind (arith, common_steps);
  granted = let y = c.requires.payload in
      c.ticket_after-next.ensures ∙ ap ticket_after c.requires.ticket ∙ ticket_next (length (ghost_of c.args.seat.now).view.ends)
      ∙ ap ticket_of (sym (ended_longer (ghost_of c.args.seat.now) (ghost_of c.grant-node.new.seat) y.0 (c.grant-node.ensures.ended y.0 (subst (λ n. SlotsAtRelease c.args.table.now.key.config.nodes n c.args.seat.now y.0) c.requires.ticket y.1))));
  steps = let y = c.requires.payload in omega (arith, ended_longer (ghost_of c.args.seat.now) (ghost_of c.grant-node.new.seat) y.0 (c.grant-node.ensures.ended y.0 (subst (λ n. SlotsAtRelease c.args.table.now.key.config.nodes n c.args.seat.now y.0) c.requires.ticket y.1)));
  bound = search rules;
}

pub walk-walked-requires : goal.walk-walked-requires
walk-walked-requires g c = record {
  table = search rules;
  point = search rules;
  mask_fits = search rules;
  knows_nodes = ap (λ (t : LineConfig). t.nodes) c.grant-node.ensures.advances.advances.extends.config ∙ c.requires.knows_nodes;
  ticket = let y = c.requires.payload in
      c.ticket_after-next.ensures ∙ ap ticket_after c.requires.ticket ∙ ticket_next (length (ghost_of c.args.seat.now).view.ends)
      ∙ ap ticket_of (sym (ended_longer (ghost_of c.args.seat.now) (ghost_of c.grant-node.new.seat) y.0 (c.grant-node.ensures.ended y.0 (subst (λ n. SlotsAtRelease c.args.table.now.key.config.nodes n c.args.seat.now y.0) c.requires.ticket y.1))));
  not_zero = search rules;
  passed = search rules;
  others = search rules;
  first = search rules;
  nodes = search rules;
  payload = search rules;
}
