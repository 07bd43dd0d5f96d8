use Rattle.std.proofs.Common.{◌≡◌, ◌++◌, drop, length}
use Rattle.std.specs.Vec.Iter.{into_iter_items}
use Rattle.qolb_nodes.specs.Opens.{held_by}
use Rattle.qolb_nodes.proofs.Filling.{held_values}
use Rattle.qolb_nodes.proofs.opening.fill.Given as goal

abbrev pub invariant-loop-node : goal.invariant-loop-node
invariant-loop-node l = record {
  place : l.place ≡ length l.yielded;
  all : l.yielded ++ into_iter_items l.node-iterator ≡ into_iter_items l.initial.node-iterator;
  filled : held_by l.out ≡ held_values l.yielded ++ drop (length l.yielded) (held_by l.initial.out);
}
