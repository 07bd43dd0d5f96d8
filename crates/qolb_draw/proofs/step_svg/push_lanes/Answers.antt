use Rattle.std.proofs.Common.{◌≡◌, ◌+◌, ◌++◌, refl, sym, ap, ◌∙◌, arith}
use Rattle.qolb_draw.specs.StepShapes.{lane_shapes}
use Rattle.qolb_draw.specs.StepSvg.{step_texts}
use Rattle.std.specs.List.{flat_map, range_with_len}
use Rattle.qolb_draw.proofs.Pushing.{piece_pushed}
use Rattle.qolb_draw.proofs.StepTexts.{step_texts-flat_map}
use Rattle.qolb_draw.proofs.step_svg.push_lanes.Goals as goal

pub loop-row-preserved : goal.loop-row-preserved
loop-row-preserved g c = piece_pushed (λ row. step_texts (lane_shapes c.args.columns row)) c.args.svg.now.items c.loop-row.row c.loop-row.svg.items c.push_row.new.svg.items _ c.loop-row.invariant refl c.in_ok-push_row.ensures

pub returns : goal.returns
returns g c =
    let at : c.loop-row.row ≡ c.args.nodes + 1 = omega arith in
    c.loop-row.invariant ∙ ap (λ n. c.args.svg.now.items ++ flat_map (λ row. step_texts (lane_shapes c.args.columns row)) (range_with_len 0 n)) at
    ∙ ap (λ t. c.args.svg.now.items ++ t) (sym (step_texts-flat_map (lane_shapes c.args.columns) (range_with_len 0 (c.args.nodes + 1))))
