use Rattle.std.proofs.Common.{◌≡◌, ◌++◌, ◌∷◌, [], length, length-append, append_assoc, append-nil, refl, sym, ap, ◌∙◌, subst, arith}
use Rattle.std.specs.Vec.Iter.{into_iter_items}
use Rattle.qolb_nodes.specs.Opens.{held_by}
use Rattle.std.proofs.Common.{drop}
use Rattle.qolb_nodes.proofs.Filling.{Boxes, held_values, room_left, was_empty, held_pushed, empty_rest}
use Rattle.qolb_nodes.proofs.opening.fill.Goals as goal

pub loop-node-init : goal.loop-node-init
loop-node-init c = record { place = refl; all = refl; filled = refl }

pub bounds-out-place : goal.bounds-out-place
bounds-out-place c =
    let room = room_left c.loop-node.yielded (into_iter_items c.loop-node.node-iterator) c.args.nodes.items c.in-Some.node (into_iter_items c.next.new.self)
    (c.loop-node.invariant.all ∙ c.into_iter-node-iterator.ensures.into_iter_gives.0) c.in-Some.ensures.steps.0 in
    omega (arith, room, c.loop-node.invariant.place, c.requires.room, c.loop-node.auto.out)

pub put-requires : goal.put-requires
put-requires c =
    let room = room_left c.loop-node.yielded (into_iter_items c.loop-node.node-iterator) c.args.nodes.items c.in-Some.node (into_iter_items c.next.new.self)
    (c.loop-node.invariant.all ∙ c.into_iter-node-iterator.ensures.into_iter_gives.0) c.in-Some.ensures.steps.0 in
    was_empty c.loop-node.out c.args.out.now c.loop-node.yielded c.loop-node.place c.index-out-place.result c.loop-node.invariant.place c.loop-node.invariant.filled c.loop-node.auto.out
    (omega (arith, room, c.loop-node.invariant.place, c.requires.room, c.loop-node.auto.out)) (c.requires.empty c.loop-node.place (omega (arith, room, c.loop-node.invariant.place)))

pub loop-node-preserved : goal.loop-node-preserved
loop-node-preserved c =
    let room = room_left c.loop-node.yielded (into_iter_items c.loop-node.node-iterator) c.args.nodes.items c.in-Some.node (into_iter_items c.next.new.self)
    (c.loop-node.invariant.all ∙ c.into_iter-node-iterator.ensures.into_iter_gives.0) c.in-Some.ensures.steps.0 in
    record {
      place = omega (arith, c.loop-node.invariant.place, length-append c.loop-node.yielded (c.in-Some.node ∷ []));
      all =
          append_assoc c.loop-node.yielded (c.in-Some.node ∷ []) (into_iter_items c.next.new.self) ∙ ap (λ (xs : Boxes). c.loop-node.yielded ++ xs) (sym c.in-Some.ensures.steps.0)
          ∙ c.loop-node.invariant.all;
      filled =
          held_pushed c.loop-node.out c.args.out.now c.loop-node.yielded c.in-Some.node c.put.new.self c.loop-node.place c.loop-node.invariant.place c.loop-node.invariant.filled c.loop-node.auto.out
          (omega (arith, room, c.loop-node.invariant.place, c.requires.room, c.loop-node.auto.out)) c.put.ensures;
    }

pub returns : goal.returns
returns c =
    let none = empty_rest (into_iter_items c.loop-node.node-iterator) _ c.loop-node.node-iterator.rest.ok.0 c.in-None.ensures.steps.0 in
    let all : c.loop-node.yielded ≡ c.args.nodes.items =
    sym (append-nil c.loop-node.yielded) ∙ ap (λ (xs : Boxes). c.loop-node.yielded ++ xs) (sym none) ∙ c.loop-node.invariant.all ∙ c.into_iter-node-iterator.ensures.into_iter_gives.0 in
    subst (λ (bs : Boxes). held_by c.loop-node.out ≡ held_values bs ++ drop (length bs) (held_by c.args.out.now)) all c.loop-node.invariant.filled
