use Rattle.std.proofs.Common.{◌≡◌, ◌≤◌, ◌++◌, map, Some, vec_len, vec_capacity}
use Rattle.std.specs.Vec.Iter.{into_iter_items}
use Rattle.qolb_work.proofs.workers.all_done.Given as goal

abbrev pub invariant-loop-hand : goal.invariant-loop-hand
invariant-loop-hand g l = (map Some l.hands.items ++ into_iter_items l.hand-iterator ≡ l.fn.joined.back.items) × (vec_len l.fn.joined.back ≤ vec_capacity l.hands)
