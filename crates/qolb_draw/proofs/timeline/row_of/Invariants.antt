use Rattle.std.proofs.Common.{◌≡◌, ◌≤◌, nat_lt, count_by, take}
use Rattle.qolb_draw.proofs.timeline.row_of.Given as goal

abbrev pub invariant-loop-other : goal.invariant-loop-other
invariant-loop-other l = (l.row ≡ count_by (λ m. nat_lt m l.node) (take l.other-index l.shown)) × (l.row ≤ l.other-index)
