use Rattle.std.proofs.Common.{◌≡◌, ◌++◌, All, map}
use Rattle.std.specs.Arc.{arc_value}
use Rattle.std.specs.Vec.Iter.{into_iter_items}
use Rattle.qolb_nodes.proofs.Filling.{node_at}
use Rattle.qolb_nodes.proofs.opening.new_nodes.Given as goal

abbrev pub invariant-loop-port : goal.invariant-loop-port
invariant-loop-port g l = record {
  each_belongs : All (λ port. g.L.LineSync.belongs (arc_value l.line) port) (into_iter_items l.port-iterator);
  made : l.nodes.items ++ map (node_at (arc_value l.line)) (into_iter_items l.port-iterator) ≡ map (node_at (arc_value l.line)) (into_iter_items l.initial.port-iterator);
}
