use Rattle.qolb_words.proofs.Pieces.{begins, piece, ◌▸◌}
use Rattle.qolb_draw.proofs.step_svg.push_act.Goals as goal

pub returns : goal.returns
returns g c =
    let first = rw (c.node.ensures, c.sign_at.ensures) at c.in_ok-push_sign_begin.ensures in
    let last = rw c.step_verb.ensures at c.in_ok-push_sign_end.ensures in
    (begins c.args.svg.now.items _ first ▸ piece _ c.in_ok-push_told.ensures ▸ piece _ last).is
