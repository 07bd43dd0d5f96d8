use Rattle.std.proofs.Common.{ap, ◌∙◌, ◌++◌}
use Rattle.qolb_draw.specs.Svg.{call_text}
use Rattle.qolb_draw.specs.Shapes.{Call, Number}
use Rattle.qolb_draw.specs.Timelines.{arrow_of, bytes_of, row_of}
use Rattle.qolb_draw.proofs.Shapes.{column_whole}
use Rattle.qolb_draw.proofs.timeline.push_column.Goals as goal

pub returns : goal.returns
returns g c =
    column_whole c.args.svg.now.items (Number c.args.column c.args.event.now.number) (arrow_of c.args.shown.now c.args.column c.args.event.now.number c.args.event.now.change.before c.args.event.now.change.after)
    (bytes_of c.args.shown.now c.args.column c.args.event.now.command c.args.event.now.change.said) (Call (row_of c.args.shown.now c.args.event.now.change.node) c.args.column c.args.event.now) _ _ _ _
    c.in_ok-push_number.ensures c.in_ok-push_handoff.ensures c.in_ok-push_written.ensures
    (c.in_ok-push_call.ensures ∙ ap (λ r. c.push_written.new.svg.items ++ call_text r c.args.column c.args.event.now) c.row_of.ensures)
