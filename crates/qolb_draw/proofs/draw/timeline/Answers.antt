use Rattle.std.proofs.Common.{◌≡◌, ℕ, List, ◌++◌, length, refl, ap, ◌∙◌, arith}
use Rattle.qolb_draw.specs.declared.svg.TheConstants.{LEGEND, TAIL}
use Rattle.qolb_draw.specs.Svg.{svg_head}
use Rattle.qolb_draw.proofs.Lines.{line_placed, no_lines, whole}
use Rattle.qolb_draw.proofs.Outs.{columns_found, event_count, rows_found, timeline_found}
use Rattle.qolb_draw.proofs.draw.timeline.Goals as goal

pub loop-number-init : goal.loop-number-init
loop-number-init g c = no_lines c.args.schedule.now c.new-lines.result.items c.new-lines.ensures.items

pub push_timeline-requires-clause-events : goal.push_timeline-requires-clause-events
push_timeline-requires-clause-events g c =
    let same = event_count _ _ _ _ _ _ _ c.in_ok-grid.ensures.grid in
    omega (arith, same, c.in_ok-grid.ensures.numbers)

pub loop-number-preserved : goal.loop-number-preserved
loop-number-preserved g c =
    let long : c.len.result ≡ length c.in_ok-grid.grid.numbers.items = omega (arith, c.len.ensures, c.in_ok-grid.grid.numbers.ok) in
    line_placed c.args.schedule.now c.loop-number.number c.loop-number.lines.items _ _ c.loop-number.top _ c.loop-number.width _ c.in_ok-rows.rows c.len.result c.loop-number.invariant
    c.in_ok-rows.ensures.svg (timeline_found c.args.schedule.now c.loop-number.number c.loop-number.top _ _ _ _ _ c.in_ok-grid.ensures.grid)
    (c.in_ok-rows.ensures.rows ∙ rows_found c.args.schedule.now c.loop-number.number _ _ _ _ _ c.in_ok-grid.ensures.grid) c.in_ok-rows.ensures.in_range refl
    (long ∙ columns_found c.args.schedule.now c.loop-number.number _ _ _ _ _ c.in_ok-grid.ensures.grid) c.wider-width.ensures

pub returns : goal.returns
returns g c =
    let end : c.loop-number.number ≡ c.args.schedule.now.lines = omega (arith, c.lines-number-end.ensures.lines) in
    c.in_ok-svg.ensures ∙ whole c.args.schedule.now _ _ _ _ c.loop-number.invariant end
