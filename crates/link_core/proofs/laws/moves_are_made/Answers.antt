use Rattle.link_core.proofs.Steady.{after_is, after_made}
use Rattle.link_core.proofs.laws.moves_are_made.Goals as goal

pub returns : goal.returns
returns k config c d q e t step on = (after_is on, after_made on)
