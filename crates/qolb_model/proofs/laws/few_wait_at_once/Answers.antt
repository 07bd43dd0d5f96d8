use Rattle.qolb_model.proofs.Nearness.{few_wait}
use Rattle.qolb_model.proofs.laws.few_wait_at_once.Goals as goal

pub returns : goal.returns
returns c = few_wait
