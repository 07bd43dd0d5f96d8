use Rattle.std.proofs.Common.{rules, ◌≡◌, ◌+◌, ◌^◌, ◌<◌, ◌++◌, ◌∷◌, [], length, ap, sym, subst, ◌∙◌, arith, length-append}
use Rattle.std.specs.Prelude.{◌≤◌, vec_capacity}
use Rattle.std.specs.Vec.Iter.{into_iter_items}
use Rattle.std.specs.declared.thread.PromisedHandle.{PromisedHandle}
use Rattle.line_blocking.specs.Places.{AllAt}
use Rattle.line_blocking.specs.declared.scoped.Done.{Done}
use Rattle.line_blocking.proofs.Joined.{done_as_meant, each_joined}
use Rattle.line_blocking.proofs.Places.{first_at, one_more, rest_at}
use Rattle.line_blocking.proofs.scoped.fn.run_scoped.scope.Goals as goal

pub spawn_with-requires-clause-runs : goal.spawn_with-requires-clause-runs
spawn_with-requires-clause-runs g c =
    let place : length c.loop-part.handles.items ≡ c.len-place.result = sym (c.len-place.ensures ∙ c.loop-part.handles.ok.0) in
    let own = first_at (g.W.ScopedTask.pre c.captures.work.now c.captures.shared.now) (length c.loop-part.handles.items) c.in-Some.part (into_iter_items c.next.new.self) (into_iter_items c.loop-part.part-iterator) c.in-Some.ensures.steps.0 c.loop-part.invariant.fit in
    let pre : g.W.ScopedTask.pre c.captures.work.now c.captures.shared.now c.len-place.result c.in-Some.part = subst (λ n. g.W.ScopedTask.pre c.captures.work.now c.captures.shared.now n c.in-Some.part) place own in
    let small : c.len-place.result + 1 < 2 ^ 64 = search rules in
    λ _ _. (pre, small)

pub loop-part-init : goal.loop-part-init
loop-part-init g c =
    let wide : c.captures.parts.len ≤ vec_capacity c.in_ok-handles.handles = search rules in
    let all = ap length c.into_iter-part-iterator.ensures.into_iter_gives.0 in
    record { fit = search rules; many = search rules; room = omega (arith, wide, all, c.captures.parts.ok.0); promised = search rules }

pub loop-part-preserved : goal.loop-part-preserved
loop-part-preserved g c =
    let pushed : c.push.new.self.items ≡ c.loop-part.handles.items ++ c.in-Ok.handle ∷ [] = search rules in
    let longer : length c.push.new.self.items ≡ length c.loop-part.handles.items + 1 = ap length pushed ∙ length-append c.loop-part.handles.items (c.in-Ok.handle ∷ []) in
    let rest = ap length c.in-Some.ensures.steps.0 in
    let before = c.loop-part.invariant.many in
    record {
      fit = rest_at (g.W.ScopedTask.pre c.captures.work.now c.captures.shared.now) (length c.loop-part.handles.items) c.in-Some.part (into_iter_items c.next.new.self) (into_iter_items c.loop-part.part-iterator) (length c.push.new.self.items) longer c.in-Some.ensures.steps.0 c.loop-part.invariant.fit;
      many = omega (arith, longer, rest, before);
      room = omega (arith, c.loop-part.invariant.room, c.push.ensures.capacity);
      promised = subst (AllAt (λ k (h : PromisedHandle g.row.W-Output.Denot (Done g.row.R.Denot g.row.S.Denot g.row.P.Denot g.row.W.Denot)). (h.promise.work.value ≡ c.captures.work.now) × (h.promise.shared.value ≡ c.captures.shared.now) × (h.promise.place ≡ k))) (sym pushed)
          (one_more (λ k (h : PromisedHandle g.row.W-Output.Denot (Done g.row.R.Denot g.row.S.Denot g.row.P.Denot g.row.W.Denot)). (h.promise.work.value ≡ c.captures.work.now) × (h.promise.shared.value ≡ c.captures.shared.now) × (h.promise.place ≡ k)) c.loop-part.handles.items c.in-Ok.handle c.loop-part.invariant.promised (
            ap (λ (p : Done g.row.R.Denot g.row.S.Denot g.row.P.Denot g.row.W.Denot). p.work.value) c.in-Ok.ensures.ok ∙ c.of.ensures,
            ap (λ (p : Done g.row.R.Denot g.row.S.Denot g.row.P.Denot g.row.W.Denot). p.shared.value) c.in-Ok.ensures.ok ∙ c.of-in-loop-part.ensures,
            ap (λ (p : Done g.row.R.Denot g.row.S.Denot g.row.P.Denot g.row.W.Denot). p.place) c.in-Ok.ensures.ok ∙ (c.len-place.ensures ∙ c.loop-part.handles.ok.0),
          ));
    }

pub returns : goal.returns
returns g c =
    let before = c.loop-part.invariant.many in
    let end : length (into_iter_items c.loop-part.part-iterator) ≡ 0 = search rules in
    let all = ap length c.into_iter-part-iterator.ensures.into_iter_gives.0 in
    record {
      len = omega (arith, c.join_into.ensures.len, before, end, all, c.loop-part.handles.ok.0, c.captures.parts.ok.0);
      post = each_joined {P = Done g.row.R.Denot g.row.S.Denot g.row.P.Denot g.row.W.Denot} (record { kept_by = λ (p : Done g.row.R.Denot g.row.S.Denot g.row.P.Denot g.row.W.Denot) (back : g.row.W-Output.Denot). g.W.ScopedTask.post p.work.value p.shared.value p.place back })
          c.loop-part.handles (g.W.ScopedTask.post c.captures.work.now c.captures.shared.now) c.join_into.result c.join_into.ensures.len c.join_into.ensures.each
          (λ k d lt back kept.
          let (work_is, shared_is, place_is) = c.loop-part.invariant.promised k d lt in
          done_as_meant g.W.ScopedTask.post _ _ _ _ _ _ back work_is shared_is place_is kept);
    }
