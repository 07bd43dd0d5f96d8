use Rattle.std.proofs.Common.{arith}
use Rattle.lock_core.proofs.Slots.{come_slotted}
use Rattle.lock_core.proofs.opening.new_seat.Goals as goal

pub load_new_seat-seat-requires : goal.load_new_seat-seat-requires
load_new_seat-seat-requires g c = ((let e = c.requires in omega arith), come_slotted _)
