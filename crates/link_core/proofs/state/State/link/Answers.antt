use Rattle.std.proofs.Common.{sym, ◌∙◌, ap}
use Rattle.link_core.specs.declared.entry.Entry.{Entry}
use Rattle.link_core.specs.Steps as row
use Rattle.link_core.proofs.state.State.link.Goals as goal

pub returns-then-word-clause-step : goal.returns-then-word-clause-step
returns-then-word-clause-step c = rw (c.arrive.ensures.state, c.arrive.ensures.told, c.put_entry.ensures, c.entry-word.ensures) (row.link_done c.args.n c.in-Linking.p c.requires.node (sym c.point.ensures ∙ c.in-Linking.is) (ap (λ (w : Entry). w.done) (sym c.entry-word.ensures) ∙ c.if-word.true))

pub returns-else-word-clause-step : goal.returns-else-word-clause-step
returns-else-word-clause-step c = rw (c.go_to.ensures, c.put_entry.ensures, c.entry-word.ensures) (row.link c.args.n c.in-Linking.p c.requires.node (sym c.point.ensures ∙ c.in-Linking.is) (ap (λ (w : Entry). w.done) (sym c.entry-word.ensures) ∙ c.if-word.false))
