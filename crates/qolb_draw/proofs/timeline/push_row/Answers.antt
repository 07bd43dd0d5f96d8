use Rattle.std.proofs.Common.{◌≡◌, ℕ, length, sym, ap, ◌∙◌, ◌*◌, ◌++◌, arith}
use Rattle.qolb_draw.specs.Grids.{bars_out_of}
use Rattle.std.specs.List.{range_with_len}
use Rattle.qolb_draw.specs.declared.svg.Scale.TheVariants as scale
use Rattle.qolb_draw.specs.declared.svg.TheConstants.{NAMED_EVERY}
use Rattle.qolb_draw.specs.Svg.{lane_text, names_text, texts}
use Rattle.qolb_draw.specs.Shapes.{Lane, Name, name_count}
use Rattle.qolb_draw.specs.Timelines.{names_of, row_of}
use Rattle.qolb_draw.proofs.Shapes.{row_whole, texts-map}
use Rattle.qolb_draw.proofs.timeline.push_row.Goals as goal

pub returns : goal.returns
returns g c =
    let columns : ℕ = length c.args.grid.now.numbers.items in
    let row : ℕ = row_of c.args.shown.now c.args.node in
    let long : c.len-columns.result ≡ columns = omega (arith, c.len-columns.ensures, c.args.grid.now.numbers.ok) in
    row_whole c.args.svg.now.items (Lane row columns) (bars_out_of c.args.grid.now.nodes c.args.grid.now.marks.items columns row c.args.node) (names_of row columns c.args.node) _ _ _
    (c.in_ok-push_lane.ensures ∙ ap (λ r. c.args.svg.now.items ++ lane_text scale.Schedule r c.len-columns.result) c.row_of-row.ensures ∙ ap (λ n. c.args.svg.now.items ++ lane_text scale.Schedule row n) long)
    (c.in_ok-push_bars.ensures ∙ ap (λ r. c.push_lane.new.svg.items ++ texts (bars_out_of c.args.grid.now.nodes c.args.grid.now.marks.items columns r c.args.node)) c.row_of-row.ensures)
    (c.in_ok-push_names.ensures ∙ ap (λ r. c.push_bars.new.svg.items ++ names_text scale.Schedule r c.len-columns.result c.args.node) c.row_of-row.ensures ∙ ap (λ n. c.push_bars.new.svg.items ++ names_text scale.Schedule row n c.args.node) long
    ∙ ap (λ t. c.push_bars.new.svg.items ++ t) (sym (texts-map (λ k. Name row (NAMED_EVERY * k) c.args.node) (range_with_len 0 (name_count columns)))))
