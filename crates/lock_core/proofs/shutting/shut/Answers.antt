use Rattle.std.proofs.Common.{rules, arith}
use Rattle.lock_core.proofs.Slots.{shut_slotted}
use Rattle.lock_core.proofs.shutting.shut.Goals as goal

pub fetch_add-requires : goal.fetch_add-requires
fetch_add-requires g c = (search rules, (let e = c.requires.table in omega arith), shut_slotted _ _ c.args.seat.now.me c.requires.seat.1 c.requires.open)
