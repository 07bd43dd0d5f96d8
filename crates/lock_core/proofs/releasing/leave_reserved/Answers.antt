use Rattle.std.proofs.Common.{rules, arith}
use Rattle.lock_core.proofs.Slots.{leave_slotted}
use Rattle.lock_core.proofs.releasing.leave_reserved.Goals as goal

pub compare_exchange-requires : goal.compare_exchange-requires
compare_exchange-requires g c = (search rules, (let e = c.requires.table in omega arith), leave_slotted _ _ _ _ c.args.seat.now.me c.requires.seat.1 (omega arith) (λ e. omega arith) (λ e. absurd (omega arith)) (omega arith) c.requires.inside)
