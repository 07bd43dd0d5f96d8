use Rattle.qolb_model.proofs.Sums.{sums_of_ports}
use Rattle.qolb_model.proofs.laws.sums_are_of_each_port.Goals as goal

pub returns : goal.returns
returns g c = sums_of_ports g.K.Keep.good g.K.Keep.allows
