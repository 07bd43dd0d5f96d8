use Rattle.qolb_model.proofs.Agreeing.{history_of_some}
use Rattle.qolb_model.proofs.laws.part_is_of_one_history.Goals as goal

pub returns : goal.returns
returns c = history_of_some
