use Rattle.std.proofs.Common.{rules, arith}
use Rattle.lock_core.proofs.Slots.{check_open_slotted}
use Rattle.lock_core.proofs.shutting.check_open.Goals as goal

pub load-requires : goal.load-requires
load-requires g c = (search rules, (let e = c.requires.table in omega arith), check_open_slotted _ _ c.args.ticket c.args.seat.now.me c.requires.seat.1 (let e = c.requires.strict in omega arith) c.requires.at_turn)
