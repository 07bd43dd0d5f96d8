use Rattle.qolb_nodes.specs.Calls.{Waits}
use Rattle.qolb_nodes.proofs.Telling.{called}
use Rattle.qolb_nodes.proofs.qolb_wait_proved_.Goals as goal

pub returns-in-Some : goal.returns-in-Some
returns-in-Some c = called (Waits c.args.polls) _ _ _ _ _ c.in-Some.ensures.node c.number-in-Some.ensures c.wait.ensures
