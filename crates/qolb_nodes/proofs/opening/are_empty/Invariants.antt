use Rattle.std.proofs.Common.{◌≡◌, ℕ, ◌<◌, Some, None, slice_get}
use Rattle.qolb_nodes.specs.Opens.{held_by}
use Rattle.qolb_nodes.proofs.opening.are_empty.Given as goal

abbrev pub invariant-loop-place : goal.invariant-loop-place
invariant-loop-place l = record {
  same : held_by l.handles ≡ held_by l.initial.handles;
  empty : (k : ℕ) → k < l.place → slice_get (held_by l.initial.handles) k ≡ Some None;
}
