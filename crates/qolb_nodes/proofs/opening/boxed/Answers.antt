use Rattle.std.proofs.Common.{◌++◌, List, map, append-nil, sym, ap, ◌∙◌}
use Rattle.std.specs.Vec.Iter.{into_iter_items}
use Rattle.qolb_nodes.proofs.Filling.{Boxes, values, boxed_more, empty_rest}
use Rattle.qolb_nodes.proofs.opening.boxed.Goals as goal

pub loop-node-init : goal.loop-node-init
loop-node-init g c = record { made = ap (λ (bs : Boxes). values bs ++ map g.N.IntoAny.as_any (into_iter_items c.into_iter-node-iterator.result)) c.in-Ok.ensures.items }

pub loop-node-preserved : goal.loop-node-preserved
loop-node-preserved g c = record {
  made =
      boxed_more g.N.IntoAny.as_any c.loop-node.boxes.items c.push.new.self.items c.in-Ok-new.node c.in-Some.node (into_iter_items c.loop-node.node-iterator) (into_iter_items c.next.new.self) _
      c.in-Ok-push.ensures.items (c.in-Ok-new.ensures.ok ∙ c.into_any.ensures) c.in-Some.ensures.steps.0 c.loop-node.invariant.made;
}

pub returns-clause-nodes : goal.returns-clause-nodes
returns-clause-nodes g c =
    let none = empty_rest (into_iter_items c.loop-node.node-iterator) _ c.loop-node.node-iterator.rest.ok.0 c.in-None.ensures.steps.0 in
    sym (append-nil (values c.loop-node.boxes.items)) ∙ ap (λ (xs : List g.row.N.Denot). values c.loop-node.boxes.items ++ map g.N.IntoAny.as_any xs) (sym none) ∙ c.loop-node.invariant.made
    ∙ ap (λ (xs : List g.row.N.Denot). map g.N.IntoAny.as_any xs) c.into_iter-node-iterator.ensures.into_iter_gives.0
