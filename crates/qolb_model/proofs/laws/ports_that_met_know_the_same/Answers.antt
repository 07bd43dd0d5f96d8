use Rattle.qolb_model.proofs.Longer.{met_know_the_same}
use Rattle.qolb_model.proofs.laws.ports_that_met_know_the_same.Goals as goal

pub returns : goal.returns
returns c = met_know_the_same
