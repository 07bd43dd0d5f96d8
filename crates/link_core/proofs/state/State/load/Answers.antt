use Rattle.std.proofs.Common.{sym, ◌∙◌, ap}
use Rattle.link_core.specs.declared.entry.Entry.{Entry}
use Rattle.link_core.specs.Steps as row
use Rattle.link_core.proofs.state.State.load.Goals as goal

pub returns-then-entry-clause-step : goal.returns-then-entry-clause-step
returns-then-entry-clause-step c = rw (c.arrive.ensures.state, c.arrive.ensures.told) (row.load_granted c.args.n c.requires.node (sym c.point.ensures ∙ c.in-Queued.is) (ap (λ (w : Entry). w.granted) (sym c.entry.ensures) ∙ c.if-entry.true))

pub returns-else-entry-clause-step : goal.returns-else-entry-clause-step
returns-else-entry-clause-step c = row.load_waiting c.args.n c.requires.node (sym c.point.ensures ∙ c.in-Queued.is) (ap (λ (w : Entry). w.granted) (sym c.entry.ensures) ∙ c.if-entry.false)

pub returns-then-is_clear-clause-step : goal.returns-then-is_clear-clause-step
returns-then-is_clear-clause-step c = rw (c.go_to.ensures) (row.load_free c.args.n c.requires.node (rw c.point.ensures at c.in-Left.is) (sym c.is_clear.ensures ∙ c.if-is_clear.true))

pub returns-else-is_clear-clause-step : goal.returns-else-is_clear-clause-step
returns-else-is_clear-clause-step c = row.load_busy c.args.n c.requires.node (rw c.point.ensures at c.in-Left.is) (sym c.is_clear.ensures ∙ c.if-is_clear.false)
