use Rattle.std.proofs.Common.{◌≡◌, ◌++◌, map}
use Rattle.std.specs.Vec.Iter.{into_iter_items}
use Rattle.qolb_nodes.proofs.Filling.{values}
use Rattle.qolb_nodes.proofs.opening.boxed.Given as goal

abbrev pub invariant-loop-node : goal.invariant-loop-node
invariant-loop-node g l = record {
  made : values l.boxes.items ++ map g.N.IntoAny.as_any (into_iter_items l.node-iterator) ≡ map g.N.IntoAny.as_any (into_iter_items l.initial.node-iterator);
}
