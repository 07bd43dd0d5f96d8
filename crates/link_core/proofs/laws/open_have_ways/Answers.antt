use Rattle.link_core.proofs.Ways.{has_way}
use Rattle.link_core.proofs.laws.open_have_ways.Goals as goal

pub returns : goal.returns
returns k config c q s l = has_way s.matches l s.matches.lies
