use Rattle.qolb_nodes.specs.Calls.{Enqolbs}
use Rattle.qolb_nodes.proofs.Telling.{called}
use Rattle.qolb_nodes.proofs.qolb_enqolb_proved_.Goals as goal

pub returns-in-Some : goal.returns-in-Some
returns-in-Some c = called Enqolbs _ _ _ _ _ c.in-Some.ensures.node c.number-in-Some.ensures c.enqolb.ensures
