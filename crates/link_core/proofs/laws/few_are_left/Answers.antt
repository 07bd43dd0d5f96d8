use Rattle.link_core.proofs.Ways.{is_near}
use Rattle.link_core.proofs.laws.few_are_left.Goals as goal

pub returns : goal.returns
returns k config c q s = is_near s.matches s.behind
