use Rattle.std.proofs.Common.{rules, arith}
use Rattle.lock_core.proofs.Slots.{clear_slotted}
use Rattle.lock_core.proofs.releasing.clear_withdrawn.Goals as goal

pub fetch_sub-requires : goal.fetch_sub-requires
fetch_sub-requires g c = (search rules, (let k = c.cell_word.ensures in let e = c.requires.table in omega arith), clear_slotted _ _ _ c.args.ticket _ c.args.seat.now.me c.requires.seat.1 c.cell_word.ensures c.bit.ensures c.requires.passes)
