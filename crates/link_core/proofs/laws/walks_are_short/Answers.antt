use Rattle.link_core.proofs.Short.{short}
use Rattle.link_core.proofs.laws.walks_are_short.Goals as goal

pub returns : goal.returns
returns k opening c q s = short s.matches
