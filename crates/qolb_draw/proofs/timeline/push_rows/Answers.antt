use Rattle.std.proofs.Common.{[], length}
use Rattle.qolb_draw.specs.Svg.{texts}
use Rattle.qolb_draw.specs.Grids.{row_shapes_out_of}
use Rattle.qolb_draw.proofs.Pushing.{element_pushed}
use Rattle.qolb_draw.proofs.timeline.push_rows.Goals as goal

pub loop-node-preserved : goal.loop-node-preserved
loop-node-preserved g c =
    element_pushed (λ n. texts (row_shapes_out_of c.args.shown.now c.args.grid.now.nodes c.args.grid.now.marks.items (length c.args.grid.now.numbers.items) n)) c.args.svg.now.items [] c.args.shown.now c.loop-node.node-index 0 c.loop-node.svg.items c.push_row.new.svg.items c.loop-node-test.true c.loop-node.invariant c.in_ok-push_row.ensures
