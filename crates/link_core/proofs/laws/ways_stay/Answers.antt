use Rattle.link_core.proofs.Paths.{way_stays}
use Rattle.link_core.proofs.laws.ways_stay.Goals as goal

pub returns : goal.returns
returns k config c d q e f t w s a step ne next = way_stays w s step a ne next
