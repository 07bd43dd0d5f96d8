use Rattle.qolb_words.proofs.Pieces.{begins, piece, ◌▸◌}
use Rattle.qolb_draw.proofs.svg.push_call.Goals as goal

pub returns : goal.returns
returns g c =
    let first = rw c.sign.ensures at c.in_ok-push_sign_begin.ensures in
    let last = rw c.verb.ensures at c.in_ok-push_sign_end.ensures in
    (begins c.args.svg.now.items _ first ▸ piece _ c.in_ok-push_all.ensures ▸ piece _ c.in_ok-push_command.ensures
    ▸ piece _ c.in_ok-extend_from_slice.ensures.items ▸ piece _ c.in_ok-push_answer.ensures ▸ piece _ last).is
