use Rattle.std.proofs.Common.{◌≡◌, ℕ, ◌<◌, List, Some, None, Option, slice_get, refl, sym, ap, ◌∙◌, length, arith}
use borrow.Author.Count.{below_more}
use Rattle.qolb_nodes.specs.declared.any_node.AnyNode.{AnyNode}
use Rattle.qolb_nodes.specs.Opens.{held_by}
use Rattle.qolb_nodes.proofs.Filling.{held_same, held_there}
use Rattle.qolb_nodes.proofs.opening.are_empty.Goals as goal

pub loop-place-init : goal.loop-place-init
loop-place-init c = record { same = refl; empty = λ k low. absurd (omega arith) }

pub loop-place-preserved : goal.loop-place-preserved
loop-place-preserved c =
    let low : c.loop-place.place < length c.loop-place.handles = omega (arith, c.loop-place-test.true, c.requires, c.loop-place.auto.handles) in
    record {
      same = held_same c.loop-place.handles c.loop-place.place c.index-handles-place.result c.is_empty.new.self low c.is_empty.ensures.same ∙ c.loop-place.invariant.same;
      empty =
          below_more (λ (k : ℕ). slice_get (held_by c.args.handles.now) k ≡ Some None) c.loop-place.place c.loop-place.invariant.empty
          (ap (λ (os : List (Option AnyNode)). slice_get os c.loop-place.place) (sym c.loop-place.invariant.same) ∙ held_there c.loop-place.handles c.loop-place.place c.index-handles-place.result low
          ∙ ap (λ (o : Option AnyNode). Some o) (c.is_empty.ensures.empty c.if-not-is_empty.false));
    }

pub returns-then-not-is_empty-clause-same : goal.returns-then-not-is_empty-clause-same
returns-then-not-is_empty-clause-same c =
    let low : c.loop-place.place < length c.loop-place.handles = omega (arith, c.loop-place-test.true, c.requires, c.loop-place.auto.handles) in
    held_same c.loop-place.handles c.loop-place.place c.index-handles-place.result c.is_empty.new.self low c.is_empty.ensures.same ∙ c.loop-place.invariant.same

pub returns-then-not-is_empty-clause-occupied : goal.returns-then-not-is_empty-clause-occupied
returns-then-not-is_empty-clause-occupied c = λ _.
    let low : c.loop-place.place < length c.loop-place.handles = omega (arith, c.loop-place-test.true, c.requires, c.loop-place.auto.handles) in
    let had = c.is_empty.ensures.node c.if-not-is_empty.true in (
      c.loop-place.place,
      c.loop-place-test.true,
      (
        had.0,
        ap (λ (os : List (Option AnyNode)). slice_get os c.loop-place.place) (sym c.loop-place.invariant.same) ∙ held_there c.loop-place.handles c.loop-place.place c.index-handles-place.result low
            ∙ ap (λ (o : Option AnyNode). Some o) had.1,
      ),
    )
