use Rattle.std.proofs.Common.{rules, arith, sym, ap, ◌∙◌}
use Rattle.link_line.specs.Layout.{entry_at}
use Rattle.link_line.specs.Steps.{ghost_of}
use Rattle.link_line.proofs.Freeing.{frees_next}
use Rattle.link_line.proofs.steps.free.Goals as goal

pub fetch_add-requires : goal.fetch_add-requires
fetch_add-requires g c = let f = c.requires.next_to_free in let r = c.requires.point in
    (search rules, omega arith, frees_next g.K.Keep.good g.K.Keep.allows c.args.table.now.key (ghost_of c.args.seat.now) r.1 f.0 f.1 f.2 f.3 f.4 _ _ _ c.args.seat.now.me r.0 (c.entry_word.ensures ∙ ap entry_at (sym f.5)))
