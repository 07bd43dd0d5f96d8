use Rattle.qolb_model.proofs.Agreeing.{history_of_two}
use Rattle.qolb_model.proofs.laws.each_two_are_of_one_history.Goals as goal

pub returns : goal.returns
returns c = history_of_two
