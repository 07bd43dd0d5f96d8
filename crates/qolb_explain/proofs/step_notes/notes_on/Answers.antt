use Rattle.std.proofs.Common.{◌+◌, ◌≤◌, List, length, refl, sym, subst}
use Rattle.link_core.specs.declared.event.Event.{Event}
use Rattle.link_core.specs.declared.event.Event.TheVariants.{Reset}
use Rattle.qolb_explain.proofs.Noting.{Reaches, reaches_first, reaches_more, reaches_last}
use Rattle.qolb_explain.proofs.step_notes.notes_on.Goals as goal

pub loop-event-init : goal.loop-event-init
loop-event-init c = subst (Reaches c.args.steps.now 0 0 c.open-core.result) (sym c.new-notes.ensures.items) (reaches_first c.args.steps.now c.open-core.result c.open-core.ensures)

pub loop-event-preserved : goal.loop-event-preserved
loop-event-preserved c =
    reaches_more c.args.steps.now c.loop-event.event-index c.loop-event.number (c.loop-event.number + 1) c.loop-event.core c.push_if_refused.new.core c.loop-event.notes.items c.push_if_refused.new.notes.items
    c.events-event-items.result.now (Reset 0) c.loop-event.invariant c.events-event-items.ensures.events c.loop-event-test.true refl c.in_ok-push_if_refused.ensures

pub returns : goal.returns
returns c =
    reaches_last c.args.steps.now c.loop-event.event-index c.loop-event.number c.loop-event.core c.loop-event.notes.items c.loop-event.invariant
    (subst (λ (es : List Event). length es ≤ c.loop-event.event-index) c.events-event-items.ensures.events c.loop-event-test.false)
