use Rattle.std.proofs.Common.{rules, refl, sym, ap, subst, ◌∙◌, ◌≤◌, ℕ, slice_index_or, arith}
use Rattle.qolb_model.specs.declared.config.TheConstants.{MAX_NODES}
use Rattle.line_cells.specs.Layout.{node_at}
use Rattle.line_cells.specs.Steps.{ghost_of}
use Rattle.line_cells.proofs.Counting.{node_below}
use Rattle.line_cells.proofs.Freeing.{frees_next}
use Rattle.line_cells.proofs.Turning.{goes_none}
use Rattle.line_cells.proofs.Walking.{frees_none, frees_all, freeing_which, freeing_next, freed_steps}
use Rattle.ticket_line.specs.Slots.{slot_layout}
use Rattle.ticket_line.specs.Ticket.{TicketCells}
use Rattle.ticket_line.proofs.release.free_passed.Goals as goal

pub loop-node-init : goal.loop-node-init
loop-node-init g c = record {
  seat = (refl, refl);
  carried = refl;
  advances = goes_none g.K.Keep.allows c.args.seat.now.me c.requires.point.0;
  within = omega arith;
  frees = frees_none (ghost_of c.args.seat.now) c.requires.point.1 c.requires.not_empty;
}

pub node_word-requires : goal.node_word-requires
node_word-requires g c = (freeing_which c.args.seat.now c.loop-node.seat c.args.nodes.now c.loop-node.node-index c.loop-node.invariant c.requires.same_length c.requires.nodes c.loop-node-test.true).1.0

pub store-requires : goal.store-requires
store-requires g c =
    let nodes = c.args.table.now.key.config.nodes in
    let next = freeing_which c.args.seat.now c.loop-node.seat c.args.nodes.now c.loop-node.node-index c.loop-node.invariant c.requires.same_length c.requires.nodes c.loop-node-test.true in
    let n = next.2 in
    let node : ℕ = slice_index_or c.args.nodes.now c.loop-node.node-index 0 in (
      c.loop-node.invariant.seat.0 ∙ c.requires.table.0,
      (let low = node_below nodes node (omega (arith, next.1.1, c.requires.knows_nodes)) next.1.0 in omega arith),
      frees_next (TicketCells nodes) (slot_layout nodes) g.K.Keep.good g.K.Keep.allows c.args.table.now.key (ghost_of c.loop-node.seat) next.0 n.0 n.1 n.3 n.2 n.4 _ _ _ c.loop-node.seat.me c.loop-node.invariant.advances.of_one_node (c.node_word.ensures ∙ ap node_at (sym n.5)) (subst (λ k. k ≤ MAX_NODES) (sym n.5) next.1.0),
    )

pub loop-node-preserved : goal.loop-node-preserved
loop-node-preserved g c = freeing_next g.K.Keep.allows c.args.seat.now c.loop-node.seat c.store.new.seat c.args.nodes.now c.loop-node.node-index c.loop-node.invariant c.requires.same_length c.requires.nodes c.loop-node-test.true (search rules) (search rules) (search rules) (search rules)

pub returns : goal.returns
returns g c = let done = c.loop-node.invariant in record {
  advances = record { seat = done.seat; advances = freed_steps g.K.Keep.allows c.args.seat.now c.loop-node.seat c.args.nodes.now c.loop-node.node-index done c.requires.same_length (omega (arith, c.loop-node-test.false)) };
  keeps_slot = done.carried;
  frees = frees_all (ghost_of c.args.seat.now) (ghost_of c.loop-node.seat) c.loop-node.node-index done.frees (omega (arith, c.requires.same_length, c.loop-node-test.false));
}
