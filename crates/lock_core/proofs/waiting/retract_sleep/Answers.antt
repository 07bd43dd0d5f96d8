use Rattle.std.proofs.Common.{rules, arith}
use Rattle.lock_core.proofs.Slots.{retract_sleep_slotted}
use Rattle.lock_core.proofs.waiting.retract_sleep.Goals as goal

pub fetch_sub-cell-requires : goal.fetch_sub-cell-requires
fetch_sub-cell-requires g c = (search rules, (let k = c.cell_word.ensures in let e = c.requires.table in omega arith), retract_sleep_slotted _ _ _ c.args.ticket c.args.seat.now.me c.requires.seat.1 c.requires.seat.2 c.cell_word.ensures c.requires.asleep)
