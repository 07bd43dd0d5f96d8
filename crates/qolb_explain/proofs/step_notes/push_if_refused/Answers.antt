use Rattle.qolb_explain.proofs.Noting.{one_tried, still_refused}
use Rattle.qolb_explain.proofs.step_notes.push_if_refused.Goals as goal

pub push_note-requires : goal.push_note-requires
push_note-requires c = still_refused c.args.event.now c.args.core.now c.step-told.new.self c.step-told.result c.step-told.ensures.refused c.step-told.ensures.unchanged

pub returns : goal.returns
returns c =
    one_tried c.args.number c.args.event.now c.args.core.now c.step-told.new.self c.args.notes.now.items c.push_note.new.notes.items c.step-told.result
    c.step-told.ensures.step c.step-told.ensures.refused c.step-told.ensures.unchanged c.in_ok-push_note.ensures
