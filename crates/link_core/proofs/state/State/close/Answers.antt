use Rattle.std.proofs.Common.{sym, ◌∙◌}
use Rattle.link_core.specs.Steps as row
use Rattle.link_core.proofs.state.State.close.Goals as goal

pub returns-in-Holding-clause-step : goal.returns-in-Holding-clause-step
returns-in-Holding-clause-step c = rw (c.shut_by.ensures) (row.close c.args.n c.requires.node (sym c.point.ensures ∙ c.in-Holding.is))
