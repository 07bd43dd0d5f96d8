use Rattle.std.proofs.Common.{◌≡◌, ◌++◌, length, take}
use Rattle.std.specs.List.{flat_map}
use Rattle.qolb_draw.specs.Svg.{texts}
use Rattle.qolb_draw.specs.Grids.{row_shapes_out_of}
use Rattle.qolb_draw.proofs.timeline.push_rows.Given as goal

abbrev pub invariant-loop-node : goal.invariant-loop-node
invariant-loop-node g l = l.svg.items ≡ l.fn.svg.items ++ flat_map (λ n. texts (row_shapes_out_of l.shown l.grid.nodes l.grid.marks.items (length l.grid.numbers.items) n)) (take l.node-index l.shown)
