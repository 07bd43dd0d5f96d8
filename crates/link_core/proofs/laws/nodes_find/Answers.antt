use Rattle.link_core.proofs.Found.{found}
use Rattle.link_core.proofs.laws.nodes_find.Goals as goal

pub returns : goal.returns
returns k opening c q s = found s
