use Rattle.qolb_model.proofs.Agreeing.{new_history}
use Rattle.qolb_model.proofs.laws.new_ports_are_of_one_history.Goals as goal

pub returns : goal.returns
returns c = new_history
