use Rattle.std.proofs.Common.{sym, ◌∙◌}
use Rattle.link_core.specs.Steps as row
use Rattle.link_core.proofs.state.State.prepend.Goals as goal

pub returns-then-predecessor-eq0-clause-step : goal.returns-then-predecessor-eq0-clause-step
returns-then-predecessor-eq0-clause-step c = rw (c.arrive.ensures.state, c.arrive.ensures.told) (row.prepend_first c.args.n c.requires.node (sym c.point.ensures ∙ c.in-Ready.is) c.if-predecessor-eq0.true)

pub returns-else-predecessor-eq0-clause-step : goal.returns-else-predecessor-eq0-clause-step
returns-else-predecessor-eq0-clause-step c = rw (c.go_to.ensures) (row.prepend c.args.n c.requires.node (sym c.point.ensures ∙ c.in-Ready.is) c.if-predecessor-eq0.false)
