use Rattle.link_core.proofs.Once.{one_effect}
use Rattle.link_core.proofs.laws.events_have_one_effect.Goals as goal

pub returns : goal.returns
returns k c d f e t u p r = one_effect c p r
