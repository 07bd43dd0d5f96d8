use Rattle.std.specs.Prelude.{◌≡◌, ℕ, ◌+◌, ◌<◌, ◌≤◌, get_or, vec_items, vec_len, vec_capacity}
use Rattle.std.specs.Vec.Iter.{into_iter_items, into_iter_len}
use Rattle.std.specs.PromisedHandle.{KeepsAt}
use Rattle.line_blocking.proofs.scoped.join_into.Given as goal

abbrev pub invariant-loop-handle : goal.invariant-loop-handle
invariant-loop-handle g l =
    let done = vec_len l.outputs in let rest = l.handle-iterator in let first = l.initial.handle-iterator in
    (done + into_iter_len rest ≡ into_iter_len first)
    × ((k : ℕ) (d : _) → k < into_iter_len rest → get_or (into_iter_items rest) k d ≡ get_or (into_iter_items first) (done + k) d)
    × ((k : ℕ) (x : _) → k < done → KeepsAt g.P.Promise (into_iter_items first) k (get_or (vec_items l.outputs) k x))
    × (into_iter_len first ≤ vec_capacity l.outputs)
