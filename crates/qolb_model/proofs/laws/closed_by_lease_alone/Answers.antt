use Rattle.qolb_model.proofs.Unshut.{closed_by_lease}
use Rattle.qolb_model.proofs.laws.closed_by_lease_alone.Goals as goal

pub returns : goal.returns
returns g c = closed_by_lease g.K.Keep.good g.K.Keep.allows
