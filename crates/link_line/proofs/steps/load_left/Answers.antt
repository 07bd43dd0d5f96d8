use Rattle.std.proofs.Common.{rules, arith, ap, ◌∙◌, inl}
use Rattle.link_line.specs.Layout.{entry_at}
use Rattle.link_line.specs.Steps.{ghost_of}
use Rattle.link_line.proofs.Resting.{loads_last_next}
use Rattle.link_line.proofs.steps.load_left.Goals as goal

pub load-requires : goal.load-requires
load-requires g c = (search rules, omega arith, loads_last_next g.K.Keep.good g.K.Keep.allows c.args.table.now.key (ghost_of c.args.seat.now) (inl c.requires.point.1) _ _ _ c.args.seat.now.me c.requires.point.0 (c.entry_word.ensures ∙ ap entry_at c.requires.seat.1.0))
