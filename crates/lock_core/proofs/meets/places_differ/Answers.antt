use Rattle.std.proofs.Common.{rules, arith, ap, ◌∙◌}
use Rattle.lock_core.proofs.Meeting.{places_differ_joins}
use Rattle.lock_core.proofs.Slots.{carries_nothing, meet_slotted, meet_slotted_tells}
use Rattle.lock_core.proofs.meets.places_differ.Goals as goal

pub join_seat-requires : goal.join_seat-requires
join_seat-requires c = (search rules, search rules, c.requires.other.1.nothing c.requires.table.1, (let e = c.requires.table.0 in omega arith), meet_slotted _ _ _ _ (places_differ_joins _ _ _ _ c.requires.one c.requires.two))

pub load-requires : goal.load-requires
load-requires c = (search rules, (let e = c.requires.table.0 in omega arith), meet_slotted_tells _ _ c.join_seat.new.seat.me (carries_nothing _ c.join_seat.new.seat.me c.requires.table.1 (ap (λ m. m.1) c.join_seat.ensures.2 ∙ c.requires.seat.1.nothing c.requires.table.1)) (ap (λ m. m.0.phase) c.join_seat.ensures.2) (ap (λ m. m.0.counted) c.join_seat.ensures.2))
