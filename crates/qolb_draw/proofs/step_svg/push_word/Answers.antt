use Rattle.qolb_words.proofs.Pieces.{begins, piece, ◌▸◌}
use Rattle.qolb_draw.proofs.step_svg.push_word.Goals as goal

pub returns : goal.returns
returns g c =
    let first = rw (c.x.ensures.place, c.y.ensures.place) at c.in_ok-push_all.ensures in
    (begins c.args.svg.now.items _ first ▸ piece _ c.in_ok-push_entry.ensures ▸ piece _ c.in_ok-extend_from_slice.ensures.items
    ▸ piece _ c.in_ok-push_entry-2.ensures ▸ piece _ c.in_ok-extend_from_slice-2.ensures.items).is
