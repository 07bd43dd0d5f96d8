use Rattle.std.proofs.Common.{rules, arith}
use Rattle.lock_core.proofs.Slots.{draw_slotted}
use Rattle.lock_core.proofs.drawing.draw.Goals as goal

pub fetch_add-requires : goal.fetch_add-requires
fetch_add-requires c = (search rules, (let e = c.requires.table.0 in omega arith), draw_slotted _ _ c.args.seat.now.me c.requires.seat.1 c.requires.table.1 c.requires.idle)
