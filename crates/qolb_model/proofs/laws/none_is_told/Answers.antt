use Rattle.qolb_model.proofs.Unshut.{untold}
use Rattle.qolb_model.proofs.laws.none_is_told.Goals as goal

pub returns : goal.returns
returns g c = untold g.K.Keep.good g.K.Keep.allows
