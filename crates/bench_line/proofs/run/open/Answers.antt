use Rattle.std.proofs.Common.{ap}
use Rattle.qolb_model.specs.PortStates.{may_ask}
use Rattle.bench_line.proofs.run.open.Goals as goal

pub returns-in-Ok-clause-state : goal.returns-in-Ok-clause-state
returns-in-Ok-clause-state g c = λ k d below. ap may_ask (c.in-Ok.ensures.opens.idle k d below)
