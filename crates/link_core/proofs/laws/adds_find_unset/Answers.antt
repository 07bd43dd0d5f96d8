use Rattle.link_core.proofs.Found.{unset}
use Rattle.link_core.proofs.laws.adds_find_unset.Goals as goal

pub returns : goal.returns
returns k opening c q s = unset s
