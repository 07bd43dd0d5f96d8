use Rattle.std.proofs.Common.{rules, arith, refl}
use Rattle.lock_core.proofs.Slots.{barge_slotted}
use Rattle.lock_core.proofs.barging.barge_from.Goals as goal

pub compare_exchange-requires : goal.compare_exchange-requires
compare_exchange-requires g c = (search rules, (let e = c.requires.table in omega arith), barge_slotted _ _ _ _ c.args.seat.now.me c.requires.seat.1 (let n = c.requires.barging in omega arith) c.requires.seat.2 c.requires.free refl c.requires.idle)
