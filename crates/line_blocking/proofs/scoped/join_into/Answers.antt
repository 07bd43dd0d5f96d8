use Rattle.std.specs.Prelude.{◌≡◌, ◌+◌, get_or, vec_items, vec_len}
use Rattle.std.specs.Vec.Iter.{into_iter_items}
use Rattle.std.specs.PromisedHandle.{KeepsAt}
use Rattle.std.proofs.Common.{rules, arith, below_more, refl, sym, subst}
use Rattle.line_blocking.proofs.scoped.join_into.Goals as goal

-- The handle that is joined was the first among the rest, so it is the one at the next place.
pub loop-handle-preserved : goal.loop-handle-preserved
loop-handle-preserved g c =
    let was = c.loop-handle.invariant in let step = c.in-Some.ensures.steps in let done = vec_len c.loop-handle.outputs in
    let places = c.push.ensures.by_index in let handle = c.in-Some.handle in
    let handles = into_iter_items c.into_iter-handle-iterator.result in let Kept = KeepsAt g.P.Promise handles in
    let next : handle ≡ get_or handles done handle = let h = was.1 0 handle in grind rules in
    let here : Kept done c.join.result = record { handle = handle; handle_is = next; kept = c.join.ensures } in
    let grown : vec_len c.push.new.self ≡ done + 1 = search rules in (
      search rules,
      (λ k d below. let h = was.1 (k + 1) d in grind rules),
      (λ k x below. below_more (λ i. Kept i (get_or (vec_items c.push.new.self) i x)) done
          (λ i low. subst (Kept i) (sym (places.0 i x low)) (was.2 i x low)) (subst (Kept done) (sym (places.1 x (search rules))) here) k (omega arith)),
      search rules,
    )

pub returns : goal.returns
returns g c =
    let was = c.loop-handle.invariant in let began = c.into_iter-handle-iterator.ensures.into_iter_gives in
    let whole : vec_len c.loop-handle.outputs ≡ vec_len c.args.handles = omega (arith, was.0, c.in-None.ensures.steps.0, began.1) in
    record { len = whole; each = (λ i x below. (refl, subst (λ hs. KeepsAt g.P.Promise hs i (get_or (vec_items c.loop-handle.outputs) i x)) began.0 (was.2 i x (omega arith)))) }
