use Rattle.std.proofs.Common.{arith}
use Rattle.lock_core.proofs.Slots.{opens_alone}
use Rattle.lock_core.proofs.opening.open.Goals as goal

pub of_words-requires : goal.of_words-requires
of_words-requires c = opens_alone (let k = c.barging_limit.ensures.max in omega arith)
