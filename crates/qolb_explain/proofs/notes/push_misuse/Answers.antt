use Rattle.std.specs.Prelude.{codes}
use Rattle.qolb_script.specs.Commands.{node_of, line_of}
use Rattle.qolb_words.specs.Words.{field, verb_of}
use Rattle.qolb_words.proofs.Pieces.{begins, piece, ◌▸◌}
use Rattle.qolb_explain.specs.Notes.{state_words}
use Rattle.qolb_explain.proofs.notes.push_misuse.Goals as goal

pub returns : goal.returns
returns c =
    (begins c.args.notes.now.items (field (codes "command ") c.args.number) c.in_ok-push_field.ensures
    ▸ piece (codes ", ") c.in_ok-extend_from_slice.ensures.items
    ▸ piece (verb_of c.args.command.now) (rw c.verb.ensures at c.in_ok-extend_from_slice-2.ensures.items)
    ▸ piece (field (codes " ") (node_of c.args.command.now)) (rw c.node.ensures at c.in_ok-push_field-2.ensures)
    ▸ piece (field (codes " ") (line_of c.args.command.now)) (rw c.line.ensures at c.in_ok-push_field-3.ensures)
    ▸ piece (field (codes ": node ") (node_of c.args.command.now)) (rw c.node-2.ensures at c.in_ok-push_field-4.ensures)
    ▸ piece (codes " ") c.in_ok-extend_from_slice-3.ensures.items
    ▸ piece (state_words c.args.state) (rw c.words_of_state.ensures at c.in_ok-extend_from_slice-4.ensures.items)
    ▸ piece (codes "\n") c.in_ok-extend_from_slice-5.ensures.items).is
