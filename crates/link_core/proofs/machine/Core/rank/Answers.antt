use Rattle.link_core.proofs.Sound.{sound_fits}
use Rattle.link_core.proofs.machine.Core.rank.Goals as goal

pub rank-requires : goal.rank-requires
rank-requires c = sound_fits _ c.self.invariant
