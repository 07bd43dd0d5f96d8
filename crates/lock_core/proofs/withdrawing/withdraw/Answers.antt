use Rattle.std.proofs.Common.{rules, arith}
use Rattle.lock_core.proofs.Slots.{withdraw_slotted}
use Rattle.lock_core.proofs.withdrawing.withdraw.Goals as goal

pub fetch_add-cell-requires : goal.fetch_add-cell-requires
fetch_add-cell-requires g c = (search rules, (let k = c.cell_word.ensures in let e = c.requires.table in omega arith), withdraw_slotted _ _ _ c.args.ticket c.args.rounds _ c.args.seat.now.me c.requires.seat.1 c.requires.seat.2 c.cell_word.ensures c.bit.ensures c.requires.near c.requires.queued)
