use Rattle.std.proofs.Common.{rules, arith, sym, ◌∙◌}
use Rattle.std.proofs.lemmas.Bool.{not-true, not-false}
use Rattle.link_line.specs.Steps.{ghost_of}
use Rattle.link_line.proofs.Granting.{grants_next}
use Rattle.link_line.proofs.steps.grant.Goals as goal

pub fetch_add-found-requires : goal.fetch_add-found-requires
fetch_add-found-requires g c = let r = c.requires.point in let y = c.requires.payload in (search rules, omega arith, grants_next g.K.Keep.good g.K.Keep.allows c.args.table.now.key (ghost_of c.args.seat.now) _ r.1 _ _ _ c.args.seat.now.me (λ i. (r.0 i, y i)) c.entry_word.ensures)

pub returns-clause-ended : goal.returns-clause-ended
returns-clause-ended g c = (c.fetch_add-found.ensures.2.1 _ c.requires.payload).0

pub returns-clause-handed_over : goal.returns-clause-handed_over
returns-clause-handed_over g c = λ granted. let out = (c.fetch_add-found.ensures.2.1 _ c.requires.payload).1 (sym c.is_rolled.ensures ∙ not-true _ granted) in (out.0, out.1)

pub returns-clause-names_wake_word : goal.returns-clause-names_wake_word
returns-clause-names_wake_word g c = λ granted. ((c.fetch_add-found.ensures.2.1 _ c.requires.payload).1 (sym c.is_rolled.ensures ∙ not-true _ granted)).2 _ c.requires.point.1

pub returns-clause-passes : goal.returns-clause-passes
returns-clause-passes g c = λ withdrawn. let on = (c.fetch_add-found.ensures.2.1 _ c.requires.payload).2 (sym c.is_rolled.ensures ∙ not-false _ withdrawn) in (on.0, on.1 _ c.requires.point.1)
