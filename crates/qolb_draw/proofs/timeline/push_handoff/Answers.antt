use Rattle.std.proofs.Common.{ap, ◌∙◌, ◌++◌}
use Rattle.qolb_draw.specs.Svg.{arrow_text}
use Rattle.qolb_draw.specs.Timelines.{row_of}
use Rattle.qolb_draw.proofs.Shapes.{arrow_pushed}
use Rattle.qolb_draw.proofs.timeline.push_handoff.Goals as goal

pub returns-in_ok-push_arrow : goal.returns-in_ok-push_arrow
returns-in_ok-push_arrow g c =
    arrow_pushed c.args.shown.now c.args.column c.args.event.now.number c.in-Some-Some.from c.in-Some-Some.to c.args.event.now.change.before c.args.event.now.change.after c.args.svg.now.items c.push_arrow.new.svg.items
    c.in-Some-Some.is-0 c.in-Some-Some.is-1 c.if-from-to.true
    (c.in_ok-push_arrow.ensures ∙ ap (λ r. c.args.svg.now.items ++ arrow_text c.args.column c.args.event.now.number r c.in-Some-Some.from c.row_of-taker.result c.in-Some-Some.to) c.row_of-giver.ensures
    ∙ ap (λ r. c.args.svg.now.items ++ arrow_text c.args.column c.args.event.now.number (row_of c.args.shown.now c.in-Some-Some.from) c.in-Some-Some.from r c.in-Some-Some.to) c.row_of-taker.ensures)
