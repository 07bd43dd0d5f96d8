use Rattle.link_core.proofs.Sound.{step_sizes}
use Rattle.link_core.proofs.laws.sizes_stay.Goals as goal

pub returns : goal.returns
returns k c d e t p = step_sizes c p
