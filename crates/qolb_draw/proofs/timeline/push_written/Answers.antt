use Rattle.std.proofs.Common.{ap, ◌∙◌, ◌++◌}
use Rattle.qolb_draw.specs.Svg.{bytes_text}
use Rattle.qolb_draw.specs.Timelines.{row_of}
use Rattle.qolb_draw.proofs.Shapes.{bytes_pushed}
use Rattle.qolb_draw.proofs.timeline.push_written.Goals as goal

pub returns-in_ok-push_bytes : goal.returns-in_ok-push_bytes
returns-in_ok-push_bytes g c =
    bytes_pushed c.args.shown.now c.args.column c.in-Write.node c.in-Write.line c.in-Write.mask c.in-Write.bytes c.args.event.now.command c.args.event.now.change.said c.args.svg.now.items c.push_bytes.new.svg.items
    c.in-Write.is c.in-Written.is
    (c.in_ok-push_bytes.ensures ∙ ap (λ r. c.args.svg.now.items ++ bytes_text r c.args.column c.in-Write.bytes.bytes c.deref.result.now) c.row_of.ensures
    ∙ ap (λ ps. c.args.svg.now.items ++ bytes_text (row_of c.args.shown.now c.in-Write.node) c.args.column c.in-Write.bytes.bytes ps) (c.deref.ensures.value ∙ c.in_ok-places.ensures))
