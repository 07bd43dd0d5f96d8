use Rattle.link_core.specs.Steps as row
use Rattle.link_core.proofs.state.State.reset.Goals as goal

pub returns-in-Idle-clause-step : goal.returns-in-Idle-clause-step
returns-in-Idle-clause-step c = rw (c.go_to.ensures, c.put_entry.ensures) (row.reset c.args.n c.requires.node (rw c.point.ensures at c.in-Idle.is))
