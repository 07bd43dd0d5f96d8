use Rattle.qolb_model.proofs.Writes.{good_after}
use Rattle.qolb_model.proofs.laws.good_stays_good.Goals as goal

pub returns : goal.returns
returns g c = good_after g.K.Keep.good g.K.Keep.allows g.K.Keep.stays_good
