use Rattle.std.proofs.Common.{ℕ, ◌+◌}
use Rattle.link_core.specs.State.{point}
use Rattle.link_core.specs.Steps.{node_of}
use Rattle.qolb_draw.specs.StepShapes.{Act, At, Lies, Number, entries_of, home_shapes, until, words_shapes}
use Rattle.qolb_draw.proofs.StepTexts.{event_whole}
use Rattle.qolb_draw.proofs.step_event.push_event_shapes.Goals as goal

pub returns-clause-svg : goal.returns-clause-svg
returns-clause-svg g c = λ s h e.
    let node : ℕ = node_of c.args.event.now in
    event_whole c.args.svg.now.items (Number c.args.column) (At node c.args.column (c.args.column + (until node c.args.rest.now + 1)) (point c.args.core.now node)) (Lies c.args.column c.args.core.now.place)
    (home_shapes c.args.column s.home c.args.core.now.home) (words_shapes c.args.column (entries_of s) c.args.core.now) (Act c.args.column c.args.event.now c.args.told) _ _ _ _ _ _
    (rw c.from.ensures at c.in_ok-push_number.ensures)
    (rw (c.until.ensures.matches, c.point.ensures, c.node-node.ensures) at c.in_ok-push_at.ensures)
    (rw c.place.ensures at c.in_ok-push_lies.ensures)
    (rw (c.home.ensures, h) at c.in_ok-push_other_home.ensures)
    (rw (c.deref_mut.ensures.value, e) at c.in_ok-push_other_words.ensures.svg)
    c.in_ok-push_act.ensures
