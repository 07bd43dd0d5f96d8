use Rattle.std.proofs.Common.{◌≡◌, arith, ℕ, length, map, ap, ◌∙◌}
use Rattle.std.specs.List.{range_with_len}
use Rattle.qolb_draw.specs.Pictures.{letter_of}
use Rattle.qolb_draw.specs.Grids.{mark_out_of}
use Rattle.qolb_draw.proofs.Rows.{row_is}
use Rattle.qolb_draw.proofs.text.fill_row.Goals as goal

pub returns : goal.returns
returns g c =
    let letter_at : ℕ → ℕ = λ k. letter_of (mark_out_of c.args.grid.now.nodes c.args.grid.now.marks.items c.args.node k) in
    let long : length c.loop-column.row ≡ length c.args.row.now = omega arith in
    row_is letter_at c.args.start c.loop-column.row (λ k j lt e. c.loop-column.invariant k (omega (arith, lt)) ∙ ap letter_at e)
    ∙ ap (λ n. map letter_at (range_with_len c.args.start n)) long
