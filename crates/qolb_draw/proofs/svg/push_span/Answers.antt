use Rattle.qolb_words.proofs.Pieces.{begins, piece, ◌▸◌}
use Rattle.qolb_draw.proofs.svg.push_span.Goals as goal

pub returns : goal.returns
returns g c =
    let first = rw (c.x.ensures.place, c.y.ensures.place, c.width.ensures) at c.in_ok-push_all.ensures in
    (begins c.args.svg.now.items _ first ▸ piece _ c.in_ok-push_all-2.ensures ▸ piece _ c.in_ok-extend_from_slice.ensures.items).is
