use Rattle.qolb_model.proofs.Nearness.{few_turns}
use Rattle.qolb_model.proofs.laws.few_turns_before.Goals as goal

pub returns : goal.returns
returns c = few_turns
