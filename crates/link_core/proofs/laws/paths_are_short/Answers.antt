use Rattle.link_core.proofs.Paths.{is_short}
use Rattle.link_core.proofs.laws.paths_are_short.Goals as goal

pub returns : goal.returns
returns k config c d q r w s path = is_short w s path
