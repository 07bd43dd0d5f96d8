use Rattle.std.proofs.Common.{◌≡◌, ◌++◌}
use Rattle.std.specs.List.{flat_map, range_with_len}
use Rattle.qolb_draw.specs.StepShapes.{lane_shapes}
use Rattle.qolb_draw.specs.StepSvg.{step_texts}
use Rattle.qolb_draw.proofs.step_svg.push_lanes.Given as goal

abbrev pub invariant-loop-row : goal.invariant-loop-row
invariant-loop-row g l = l.svg.items ≡ l.fn.svg.items ++ flat_map (λ row. step_texts (lane_shapes l.columns row)) (range_with_len 0 l.row)
