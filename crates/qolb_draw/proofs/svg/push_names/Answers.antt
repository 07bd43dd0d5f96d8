use Rattle.std.proofs.Common.{◌≡◌, ◌*◌, ◌++◌, refl, ap, ◌∙◌, arith}
use Rattle.std.specs.List.{flat_map, range_with_len}
use Rattle.qolb_draw.specs.declared.svg.TheConstants.{NAMED_EVERY}
use Rattle.qolb_draw.specs.Svg.{name_text}
use Rattle.qolb_draw.specs.Shapes.{name_count}
use Rattle.qolb_draw.proofs.Pushing.{piece_pushed}
use Rattle.qolb_draw.proofs.svg.push_names.Goals as goal

pub loop-count-preserved : goal.loop-count-preserved
loop-count-preserved g c =
    piece_pushed (λ k. name_text c.args.scale c.args.row (NAMED_EVERY * k) c.args.node) c.args.svg.now.items c.loop-count.count c.loop-count.svg.items c.push_name.new.svg.items _
    c.loop-count.invariant refl c.in_ok-push_name.ensures

pub returns : goal.returns
returns g c =
    let at : c.loop-count.count ≡ name_count c.args.columns = omega arith in
    c.loop-count.invariant ∙ ap (λ n. c.args.svg.now.items ++ flat_map (λ k. name_text c.args.scale c.args.row (NAMED_EVERY * k) c.args.node) (range_with_len 0 n)) at
