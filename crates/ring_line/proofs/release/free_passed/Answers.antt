use Rattle.std.proofs.Common.{refl, ◌∙◌, arith}
use Rattle.line_cells.specs.Steps.{ghost_of}
use Rattle.line_cells.proofs.Turning.{goes_none}
use Rattle.line_cells.proofs.Walking.{frees_none, frees_all, freeing_which, freeing_next, freed_steps}
use Rattle.ring_line.proofs.release.free_passed.Goals as goal

pub loop-node-init : goal.loop-node-init
loop-node-init g c = record {
  seat = (refl, refl);
  carried = refl;
  advances = goes_none g.K.Keep.allows c.args.seat.now.me c.requires.point.0;
  within = omega arith;
  frees = frees_none (ghost_of c.args.seat.now) c.requires.point.1 c.requires.not_empty;
}

pub free-requires : goal.free-requires
free-requires g c =
    let next = freeing_which c.args.seat.now c.loop-node.seat c.args.nodes.now c.loop-node.node-index c.loop-node.invariant c.requires.same_length c.requires.nodes c.loop-node-test.true in
    record {
      table = (c.loop-node.invariant.seat.0 ∙ c.requires.table.0, c.requires.table.1, c.requires.table.2);
      point = (c.loop-node.invariant.advances.of_one_node, next.0);
      in_range = next.1.0;
      next_to_free = next.2;
    }

pub loop-node-preserved : goal.loop-node-preserved
loop-node-preserved g c = freeing_next g.K.Keep.allows c.args.seat.now c.loop-node.seat c.free.new.seat c.args.nodes.now c.loop-node.node-index c.loop-node.invariant c.requires.same_length c.requires.nodes c.loop-node-test.true c.free.ensures.advances.seat c.free.ensures.keeps_slot c.free.ensures.advances.advances c.free.ensures.frees

pub returns : goal.returns
returns g c = let done = c.loop-node.invariant in record {
  advances = record { seat = done.seat; advances = freed_steps g.K.Keep.allows c.args.seat.now c.loop-node.seat c.args.nodes.now c.loop-node.node-index done c.requires.same_length (omega (arith, c.loop-node-test.false)) };
  keeps_slot = done.carried;
  frees = frees_all (ghost_of c.args.seat.now) (ghost_of c.loop-node.seat) c.loop-node.node-index done.frees (omega (arith, c.requires.same_length, c.loop-node-test.false));
}
