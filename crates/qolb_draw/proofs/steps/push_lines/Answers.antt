use Rattle.std.proofs.Common.{◌≤◌, List, length, subst}
use Rattle.link_core.specs.declared.event.Event.{Event}
use Rattle.link_core.specs.declared.event.Event.TheVariants.{Reset}
use Rattle.qolb_draw.proofs.Watching.{lines_end, lines_on, lines_start}
use Rattle.qolb_draw.proofs.steps.push_lines.Goals as goal

pub loop-column-init : goal.loop-column-init
loop-column-init g c = lines_start c.args.steps.now c.opened-core.result c.args.text.now.items c.opened-core.ensures.core

pub loop-column-preserved : goal.loop-column-preserved
loop-column-preserved g c =
    lines_on c.args.steps.now c.loop-column.column c.loop-column.core c.step.new.self c.args.text.now.items c.loop-column.text.items c.push_event_line.new.text.items c.events-events.result.now (Reset 0) c.step.result c.ok-told.result
    c.loop-column.invariant c.events-events.ensures.events c.loop-column-test.true c.step.ensures.step c.step.ensures.refused c.step.ensures.unchanged c.ok-told.ensures.value c.in_ok-push_event_line.ensures

pub returns : goal.returns
returns g c =
    let end : length c.args.steps.now.events ≤ c.loop-column.column = subst (λ (es : List Event). length es ≤ c.loop-column.column) c.events-events.ensures.events c.loop-column-test.false in
    lines_end c.args.steps.now c.loop-column.column c.loop-column.core c.args.text.now.items c.loop-column.text.items c.loop-column.invariant end
