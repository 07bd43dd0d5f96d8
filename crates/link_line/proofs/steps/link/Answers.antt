use Rattle.std.proofs.Common.{rules, arith, sym, ◌∙◌}
use Rattle.link_line.specs.Steps.{ghost_of}
use Rattle.link_line.proofs.Linking.{links_next}
use Rattle.link_line.proofs.steps.link.Goals as goal

pub fetch_add-requires : goal.fetch_add-requires
fetch_add-requires g c = (search rules, omega arith, links_next g.K.Keep.good g.K.Keep.allows c.args.table.now.key (ghost_of c.args.seat.now) _ c.requires.point.1 _ _ _ _ c.args.seat.now.me c.requires.point.0 c.entry_word.ensures c.requires.seat.1.0)

pub returns-clause-queued : goal.returns-clause-queued
returns-clause-queued g c = λ no'. let e = c.fetch_add.ensures.2.3 (sym c.is_done.ensures ∙ no') in (e.0 ∙ c.requires.no_slot, e.1)
