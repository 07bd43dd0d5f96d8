use Rattle.std.proofs.Common.{◌≡◌, ◌++◌, ◌*◌, sym, ap, ◌∙◌, append_assoc}
use Rattle.std.specs.List.{range_with_len}
use Rattle.qolb_draw.specs.declared.svg.Scale.TheVariants as scale
use Rattle.qolb_draw.specs.declared.svg.TheConstants.{NAMED_EVERY}
use Rattle.qolb_draw.specs.StepShapes.{Name}
use Rattle.qolb_draw.specs.Svg.{lane_text, names_text}
use Rattle.qolb_draw.specs.Shapes.{name_count}
use Rattle.qolb_draw.proofs.StepTexts.{step_texts-map}
use Rattle.qolb_draw.proofs.step_svg.push_row.Goals as goal

pub returns : goal.returns
returns g c =
    c.in_ok-push_names.ensures ∙ ap (λ n. c.push_lane.new.svg.items ++ names_text scale.Steps c.args.row c.args.columns n) c.from.ensures
    ∙ ap (λ t. t ++ names_text scale.Steps c.args.row c.args.columns c.args.row) c.in_ok-push_lane.ensures
    ∙ append_assoc c.args.svg.now.items (lane_text scale.Steps c.args.row c.args.columns) (names_text scale.Steps c.args.row c.args.columns c.args.row)
    ∙ ap (λ t. c.args.svg.now.items ++ (lane_text scale.Steps c.args.row c.args.columns ++ t)) (sym (step_texts-map (λ k. Name c.args.row (NAMED_EVERY * k)) (range_with_len 0 (name_count c.args.columns))))
