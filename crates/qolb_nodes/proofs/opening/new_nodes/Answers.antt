use Rattle.std.proofs.Common.{◌++◌, All, List, map, append-nil, sym, ap, ◌∙◌, subst}
use Rattle.std.proofs.lemmas.List.Elements.{All-rest, All-head}
use Rattle.std.specs.Arc.{arc_value}
use Rattle.std.specs.Vec.Iter.{into_iter_items}
use Rattle.qolb_nodes.specs.Nodes.{NodeOf}
use Rattle.qolb_nodes.proofs.Filling.{node_at, all_belong, made_more, empty_rest}
use Rattle.qolb_nodes.proofs.opening.new_nodes.Goals as goal

pub loop-port-init : goal.loop-port-init
loop-port-init g c = record {
  each_belongs = all_belong g.L.LineSync.belongs c.in_ok-line.line (arc_value c.in-Ok.line) c.in_ok-line.ports.items _ c.in-Ok.ensures.ok c.into_iter-port-iterator.ensures.into_iter_gives.0 c.in_ok-line.ensures.opens.each_belongs;
  made =
      ap (λ (ns : List (NodeOf g.row.L.Denot g.row.L-Port.Denot)). ns ++ map (node_at (arc_value c.in-Ok.line)) (into_iter_items c.into_iter-port-iterator.result)) c.in-Ok-with_capacity.ensures.items;
}

pub new-requires-in-loop-port : goal.new-requires-in-loop-port
new-requires-in-loop-port g c =
    subst (λ (l : g.row.L.Denot). g.L.LineSync.belongs l c.in-Some.port) (sym c.in-Ok-try_clone.ensures)
    (All-head (g.L.LineSync.belongs (arc_value c.in-Ok.line)) c.in-Some.port (into_iter_items c.next.new.self)
    (subst (λ (ps : List g.row.L-Port.Denot). All (g.L.LineSync.belongs (arc_value c.in-Ok.line)) ps) c.in-Some.ensures.steps.0 c.loop-port.invariant.each_belongs))

pub loop-port-preserved : goal.loop-port-preserved
loop-port-preserved g c = record {
  each_belongs =
      All-rest (g.L.LineSync.belongs (arc_value c.in-Ok.line)) c.in-Some.port (into_iter_items c.next.new.self) (into_iter_items c.loop-port.port-iterator) c.in-Some.ensures.steps.0
      c.loop-port.invariant.each_belongs;
  made =
      made_more (arc_value c.in-Ok.line) c.loop-port.nodes.items c.push.new.self.items c.new-in-loop-port.result c.in-Some.port (into_iter_items c.loop-port.port-iterator) (into_iter_items c.next.new.self) _
      c.in-Ok-push.ensures.items (c.new-in-loop-port.ensures ∙ ap (λ (l : g.row.L.Denot). node_at l c.in-Some.port) c.in-Ok-try_clone.ensures) c.in-Some.ensures.steps.0 c.loop-port.invariant.made;
}

pub returns-clause-nodes : goal.returns-clause-nodes
returns-clause-nodes g c =
    let none = empty_rest (into_iter_items c.loop-port.port-iterator) _ c.loop-port.port-iterator.rest.ok.0 c.in-None.ensures.steps.0 in
    let line = arc_value c.in-Ok.line in
    record {
      line = line;
      ports = c.in_ok-line.ports.items;
      of_line =
          sym (append-nil c.loop-port.nodes.items) ∙ ap (λ (ps : List g.row.L-Port.Denot). c.loop-port.nodes.items ++ map (node_at line) ps) (sym none) ∙ c.loop-port.invariant.made
          ∙ ap (λ (ps : List g.row.L-Port.Denot). map (node_at line) ps) c.into_iter-port-iterator.ensures.into_iter_gives.0;
      new = c.in_ok-line.ensures.opens.new;
    }
