-- Lemmas about threads that have been joined, and about what is guaranteed for the output of each thread.
use Rattle.std.proofs.Common.{◌≡◌, ℕ, ◌<◌, length, sym, subst, arith}
use Rattle.std.specs.Prelude.{Vec}
use Rattle.std.specs.Global.{Global}
use Rattle.std.specs.declared.thread.PromisedHandle.{PromisedHandle}
use Rattle.std.specs.declared.thread.Promise as Promise
use Rattle.std.specs.PromisedHandle.{KeepsEach}
use Rattle.line_blocking.specs.Places.{AllAt}

module _ {T P : Type 0} (g : Promise.Ghosts P T) (hs : Vec (PromisedHandle T P) Global) where
  pub each_joined : (done : ℕ → T → Type 0) (v : Vec T Global) → v.len ≡ hs.len → KeepsEach g hs.len hs.items v.items
      → AllAt (λ k (h : PromisedHandle T P). (back : T) → g.kept_by h.promise back → done k back) hs.items
      → AllAt done v.items
  each_joined done v len each all k d lt =
      let low : k < hs.len = omega (arith, lt, v.ok.0, len) in
      let below : k < length hs.items = omega (arith, low, hs.ok.0) in
      let kept = (each k d low).1 in
      subst (λ (h : PromisedHandle T P). (back : T) → g.kept_by h.promise back → done k back) (sym kept.handle_is) (all k kept.handle below) _ kept.kept

-- what the promised work returned is what the intended work may return
pub done_as_meant : {W S T : Type 0} (done : W → S → ℕ → T → Type 0) (promised meant : W) (with shared : S) (at place : ℕ) (back : T) → promised ≡ meant → with ≡ shared → at ≡ place → done promised with at back → done meant shared place back
done_as_meant done promised meant with shared at place back work_is shared_is place_is kept =
    subst (λ work. done work shared place back) work_is (subst (λ s. done promised s place back) shared_is (subst (λ k. done promised with k back) place_is kept))
