use Rattle.std.proofs.Common.{rules, arith, refl, ◌+◌, ◌%◌, ◌^◌}
use Rattle.lock_core.proofs.Slots.{grant_slotted}
use Rattle.lock_core.proofs.releasing.grant.Goals as goal

pub fetch_add-cell-requires : goal.fetch_add-cell-requires
fetch_add-cell-requires g c = (search rules, (let k = c.cell_word.ensures in let e = c.requires.table in omega arith), grant_slotted _ _ _ c.args.ticket ((c.args.ticket + 1) % 2 ^ 64) c.args.seat.now.me c.requires.seat.1 c.requires.seat.2 refl c.cell_word.ensures c.requires.has)
