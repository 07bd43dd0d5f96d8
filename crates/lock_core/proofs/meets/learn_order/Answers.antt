use Rattle.std.proofs.Common.{rules, arith, sym, subst, refl}
use Rattle.lock_core.specs.Views.{Timely, Carries, HasTurnAwake}
use Rattle.lock_core.proofs.Slots.{learn_ended_slotted, carries_learned, order_slotted}
use Rattle.lock_core.proofs.meets.learn_order.Goals as goal

pub join_seat-requires : goal.join_seat-requires
join_seat-requires g c = (search rules, search rules, c.requires.empty, (let e = c.requires.table in omega arith), learn_ended_slotted _ _ _ _ c.requires.at_turn c.requires.idle c.requires.home)

pub load-requires : goal.load-requires
load-requires g c = (
  search rules,
  (let e = c.requires.table in omega arith),
  order_slotted _ _ c.join_seat.new.seat.me
      (subst (Carries c.args.table.now.table_id.slots) (sym c.join_seat.ensures.2) (carries_learned _ c.args.seat.now.me.0 c.args.other.me.0 c.args.seat.now.me.1 c.requires.seat.1))
      (subst (λ m. Timely m.0 → HasTurnAwake m.0) (sym c.join_seat.ensures.2) (λ timely. ((c.requires.at_turn timely).0, refl))),
)
