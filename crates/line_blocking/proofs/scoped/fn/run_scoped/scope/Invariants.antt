use Rattle.std.proofs.Common.{◌≡◌, ◌+◌, ◌≤◌, length}
use Rattle.std.specs.Prelude.{vec_capacity}
use Rattle.std.specs.Vec.Iter.{into_iter_items}
use Rattle.line_blocking.specs.Places.{AllAt}
use Rattle.line_blocking.proofs.scoped.fn.run_scoped.scope.Given as goal

abbrev pub invariant-loop-part : goal.invariant-loop-part
invariant-loop-part g l = record {
  fit : AllAt (λ k. g.W.ScopedTask.pre l.work.now l.shared.now (length l.handles.items + k)) (into_iter_items l.part-iterator);
  many : length l.handles.items + length (into_iter_items l.part-iterator) ≡ length (into_iter_items l.initial.part-iterator);
  room : length (into_iter_items l.initial.part-iterator) ≤ vec_capacity l.handles;
  promised : AllAt (λ k h. (h.promise.work.value ≡ l.work.now) × (h.promise.shared.value ≡ l.shared.now) × (h.promise.place ≡ k)) l.handles.items;
}
