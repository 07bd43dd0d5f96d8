use Rattle.std.proofs.Common.{arith}
use Rattle.lock_core.proofs.Slots.{opens_with}
use Rattle.lock_core.proofs.opening.open_value.Goals as goal

pub new-requires : goal.new-requires
new-requires g c = opens_with _ c.requires.one (let k = c.barging_limit.ensures.max in omega arith)
