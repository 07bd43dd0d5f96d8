use Rattle.qolb_nodes.specs.Calls.{Writes}
use Rattle.qolb_nodes.proofs.Telling.{called}
use Rattle.qolb_nodes.proofs.qolb_write_proved_.Goals as goal

pub returns-in-Some : goal.returns-in-Some
returns-in-Some c = called (Writes c.args.mask c.args.bytes.now.bytes) _ _ _ _ _ c.in-Some.ensures.node c.number-in-Some.ensures c.write.ensures
