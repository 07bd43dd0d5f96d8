use Rattle.std.proofs.Common.{◌-◌}
use Rattle.std.specs.Slots.{slots_items, slots_filled, slots_len}
use Rattle.ticket_line.specs.Slots.{slot_count}
use Rattle.ticket_line.proofs.Emptying.{AreEmptied}
use Rattle.ticket_line.proofs.slots.take_final.Given as goal

abbrev pub invariant-loop-at : goal.invariant-loop-at
invariant-loop-at l = AreEmptied (slot_count l.fn.nodes) l.place l.at (slots_items l.fn.closed.slots) (slots_items l.closed.slots) (slots_filled l.closed.slots) (slots_len l.closed.slots) l.line

abbrev pub decreases-loop-at : goal.decreases-loop-at
decreases-loop-at l = slot_count l.fn.nodes - l.at
