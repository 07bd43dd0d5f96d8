use Rattle.std.proofs.Common.{rules, arith, ap, ◌∙◌, sym}
use Rattle.link_line.specs.Layout.{entry_at}
use Rattle.link_line.specs.Steps.{ghost_of}
use Rattle.link_line.proofs.Polling.{loads_next}
use Rattle.link_line.proofs.steps.load.Goals as goal

pub load-requires : goal.load-requires
load-requires g c = (search rules, omega arith, loads_next g.K.Keep.good g.K.Keep.allows c.args.table.now.key (ghost_of c.args.seat.now) c.requires.point.1 _ _ _ c.args.seat.now.me c.requires.point.0 (c.entry_word.ensures ∙ ap entry_at c.requires.seat.1.0))

pub returns-clause-queued : goal.returns-clause-queued
returns-clause-queued g c = λ no'. let e = c.load.ensures.2.3 (sym c.is_granted.ensures ∙ no') in (e.0 ∙ c.requires.no_slot, e.1)
