use Rattle.std.proofs.Common.{◌≡◌, ◌++◌, map}
use Rattle.std.specs.Vec.Iter.{into_iter_items}
use Rattle.qolb_work.proofs.board.ports_of.Given as goal

abbrev pub invariant-loop-hand : goal.invariant-loop-hand
invariant-loop-hand g l = l.ports.items ++ map (λ hand. hand.port) (into_iter_items l.hand-iterator) ≡ map (λ hand. hand.port) l.fn.hands.items
