use Rattle.qolb_nodes.specs.Calls.{Reads}
use Rattle.qolb_nodes.proofs.Telling.{called}
use Rattle.qolb_nodes.proofs.qolb_read_proved_.Goals as goal

pub returns-in-Some-clause-calls : goal.returns-in-Some-clause-calls
returns-in-Some-clause-calls c = called (Reads c.args.out.now.bytes c.read.new.out) _ _ _ _ _ c.in-Some.ensures.node c.number-in-Some.ensures c.read.ensures
