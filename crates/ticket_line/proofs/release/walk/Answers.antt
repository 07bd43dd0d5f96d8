use Rattle.std.proofs.Common.{rules, refl, sym, subst, ap, arith, ◌≡◌, ◌≢◌, ◌∙◌, ◌+◌, ℕ, List, length}
use Rattle.std.proofs.lemmas.Grind.{common_steps}
use Rattle.ticket_line.specs.Layout.{ticket_after}
use Rattle.ticket_line.specs.Slots.{slot_layout}
use Rattle.line_cells.specs.Layout.{ticket_of}
use Rattle.qolb_model.specs.declared.end.End.{End}
use Rattle.qolb_model.specs.declared.config.LineConfig.{LineConfig}
use Rattle.line_cells.specs.Array.{ArrayGhost}
use Rattle.line_cells.specs.Steps.{ghost_of, single}
use Rattle.ticket_line.proofs.Numbers.{ticket_next}
use Rattle.line_cells.proofs.Turning.{goes_none}
use Rattle.line_cells.proofs.Walking.{walk_begins, stands_first, walked_steps, walk_over}
use Rattle.ticket_line.proofs.Walking.{IsWalking, walk_has, walk_carries, walk_step}
use Rattle.ticket_line.proofs.release.walk.Goals as goal

pub loop-node-init : goal.loop-node-init
loop-node-init g c = subst (λ (nodes : List ℕ). IsWalking c.args.table.now.key.config.nodes g.K.Keep.allows c.args.seat.now nodes c.args.ticket c.args.node c.args.seat.now) (sym c.new-passed.ensures) (record {
  ticket_is = c.requires.ticket;
  walking = record {
    seat = (refl, refl);
    advances = goes_none g.K.Keep.allows c.args.seat.now.me c.requires.point.0;
    walked = walk_begins (ghost_of c.args.seat.now) c.requires.passed c.requires.others c.requires.nodes.0;
    stands = λ more. ((λ y slot. slot), stands_first (ghost_of c.args.seat.now) c.args.node c.requires.point.1 c.requires.passed c.requires.first);
    home = λ none. absurd (c.requires.not_zero none);
  };
})

pub copy_to_next_slot-requires : goal.copy_to_next_slot-requires
copy_to_next_slot-requires g c = record {
  table = search rules;
  mask_fits = search rules;
  at_turn = let more : c.loop-node.node ≢ 0 = search rules in
      let y = c.requires.payload in
      (y.0, walk_has c.args.table.now.key.config.nodes g.K.Keep.allows c.args.seat.now c.loop-node.seat c.loop-node.passed.items c.args.ticket c.loop-node.ticket c.loop-node.node y.0 c.loop-node.invariant more c.requires.ticket y.1);
}

pub grant-node-requires : goal.grant-node-requires
grant-node-requires g c = record {
  table = search rules;
  point = search rules;
  mask_fits = search rules;
  nodes = ap (λ (es : List ArrayGhost). (single es).view.config.nodes) c.copy_to_next_slot.ensures.seat.1 ∙ (ap (λ (t : LineConfig). t.nodes) c.loop-node.invariant.walking.walked.config ∙ c.requires.knows_nodes);
  next = c.ticket_after-ticket.ensures ∙ ap ticket_after c.loop-node.invariant.ticket_is ∙ ticket_next (length (ghost_of c.loop-node.seat).view.ends) ∙ ap (λ (es : List ArrayGhost). ticket_of (length (single es).view.ends + 1)) (sym c.copy_to_next_slot.ensures.seat.1);
  payload = let more : c.loop-node.node ≢ 0 = search rules in
      let y = c.requires.payload in
      let all = walk_carries c.args.table.now.key.config.nodes g.K.Keep.allows c.args.seat.now c.loop-node.seat c.copy_to_next_slot.new.seat c.loop-node.passed.items c.args.ticket c.loop-node.ticket c.loop-node.node y.0 c.loop-node.invariant more (record { seat = c.copy_to_next_slot.ensures.seat.0; entries = c.copy_to_next_slot.ensures.seat.1; stored = c.copy_to_next_slot.ensures.stored }) c.requires.ticket y.1 y.2 in
      (y.0, all.0, all.1);
}

pub loop-node-preserved : goal.loop-node-preserved
loop-node-preserved g c =
    let more : c.loop-node.node ≢ 0 = search rules in
    let y = c.requires.payload in
    subst (λ (nodes : List ℕ). IsWalking c.args.table.now.key.config.nodes g.K.Keep.allows c.args.seat.now nodes c.ticket_after-ticket.result c.grant-node.result c.grant-node.new.seat) (sym c.push.ensures.items)
    (walk_step c.args.table.now.key.config.nodes g.K.Keep.allows c.args.seat.now c.loop-node.seat c.copy_to_next_slot.new.seat c.grant-node.new.seat c.loop-node.passed.items c.args.ticket c.loop-node.ticket c.loop-node.node c.ticket_after-ticket.result c.grant-node.result y.0 c.loop-node.invariant more
    c.requires.nodes.1 (record { seat = c.copy_to_next_slot.ensures.seat.0; entries = c.copy_to_next_slot.ensures.seat.1; stored = c.copy_to_next_slot.ensures.stored }) c.requires.ticket y.1 y.2 y.3 c.grant-node.ensures.advances.seat c.grant-node.ensures.advances.advances c.grant-node.ensures.ended c.grant-node.ensures.handed_over c.grant-node.ensures.passes c.ticket_after-ticket.ensures)

pub returns : goal.returns
returns g c = record {
  no_slot = search rules;
  advances = record {
    seat = search rules;
    advances = walked_steps (slot_layout c.args.table.now.key.config.nodes) g.K.Keep.allows c.args.seat.now c.loop-node.seat c.free_passed.new.seat c.loop-node.passed.items _ c.loop-node.node _ _ _ c.loop-node.invariant.walking c.free_passed.ensures.advances.advances (ap length (search rules)) (omega arith);
  };
  finishes_walk = let done : c.loop-node.node ≡ 0 = search rules in
      walk_over (ghost_of c.args.seat.now) (ghost_of c.loop-node.seat) (ghost_of c.free_passed.new.seat) c.loop-node.passed.items c.loop-node.invariant.walking.walked (c.loop-node.invariant.walking.home done).1 c.free_passed.ensures.frees;
  granted = c.loop-node.invariant.ticket_is ∙ ap (λ (es : List End). ticket_of (length es)) (sym c.free_passed.ensures.frees.ends);
  steps = grind (arith, common_steps);
  bound = search rules;
}

pub free_passed-requires : goal.free_passed-requires
free_passed-requires g c = record {
  table = search rules;
  point = search rules;
  knows_nodes = ap (λ (t : LineConfig). t.nodes) c.loop-node.invariant.walking.walked.config ∙ c.requires.knows_nodes;
  not_empty = search rules;
  same_length = search rules;
  nodes = search rules;
}
