use Rattle.std.proofs.Common.{true}
use Rattle.qolb_nodes.specs.Calls.{Releases}
use Rattle.qolb_nodes.proofs.Telling.{called}
use Rattle.qolb_nodes.proofs.qolb_shut_proved_.Goals as goal

pub returns-in-Some : goal.returns-in-Some
returns-in-Some c = called (Releases true) _ _ _ _ _ c.in-Some.ensures.node c.number-in-Some.ensures c.release.ensures
