use Rattle.std.specs.Prelude.{codes}
use Rattle.link_core.specs.Steps.{node_of}
use Rattle.qolb_words.specs.Words.{point_words, field, step_verb}
use Rattle.qolb_words.proofs.Pieces.{begins, piece, ◌▸◌}
use Rattle.qolb_explain.specs.Notes.{events_at}
use Rattle.qolb_explain.proofs.step_notes.push_refusal.Goals as goal

pub returns : goal.returns
returns c =
    (begins c.args.notes.now.items (field (codes "event ") c.args.number) c.in_ok-push_field.ensures
    ▸ piece (codes ", ") c.in_ok-extend_from_slice.ensures.items
    ▸ piece (step_verb c.args.event.now) (rw c.step_verb.ensures at c.in_ok-extend_from_slice-2.ensures.items)
    ▸ piece (field (codes " ") (node_of c.args.event.now)) (rw c.node.ensures at c.in_ok-push_field-2.ensures)
    ▸ piece (field (codes ": node ") (node_of c.args.event.now)) (rw c.node-2.ensures at c.in_ok-push_field-3.ensures)
    ▸ piece (codes " is at ") c.in_ok-extend_from_slice-3.ensures.items
    ▸ piece (point_words c.args.point) c.in_ok-push_point.ensures
    ▸ piece (codes ", which allows ") c.in_ok-extend_from_slice-4.ensures.items
    ▸ piece (events_at c.args.point) (rw c.events_at.ensures at c.in_ok-extend_from_slice-5.ensures.items)
    ▸ piece (codes "\n") c.in_ok-extend_from_slice-6.ensures.items).is
