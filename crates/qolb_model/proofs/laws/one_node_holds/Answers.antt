use Rattle.qolb_model.proofs.Agreeing.{one_holder}
use Rattle.qolb_model.proofs.laws.one_node_holds.Goals as goal

pub returns : goal.returns
returns c = one_holder
