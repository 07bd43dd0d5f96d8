use Rattle.link_core.proofs.Few.{are_few}
use Rattle.link_core.proofs.laws.few_are_open.Goals as goal

pub returns : goal.returns
returns k config c q s = are_few s.matches
