use Rattle.std.proofs.Common.{rules, arith}
use Rattle.lock_core.proofs.Slots.{look_slotted}
use Rattle.lock_core.proofs.waiting.poll.Goals as goal

pub load-cell-requires : goal.load-cell-requires
load-cell-requires g c = (search rules, (let k = c.cell_word.ensures in let e = c.requires.table in omega arith), look_slotted _ _ _ c.args.ticket c.args.seat.now.me c.requires.seat.1 c.requires.seat.2 c.cell_word.ensures c.requires.queued)
