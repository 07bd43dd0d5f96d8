-- Lemmas about the part of the invariant that concerns a single node.
use Rattle.std.proofs.Common.{◌≡◌, ◌≢◌, ℕ, ◌<◌, ◌≤◌, List, length, Bool, true, false, sym, refl, ap, ◌∙◌, subst, arith}
use mathlib.Core.List.{IsPrefix}
use Rattle.std.proofs.lemmas.Option.{slice_get_within}
use Rattle.qolb_model.specs.declared.answer.PortState.TheVariants as port_state
use Rattle.qolb_model.specs.declared.request.Request.{Request}
use Rattle.qolb_model.specs.declared.end.End.{End}
use Rattle.qolb_model.specs.Requests.{Has, Lacks}
use Rattle.qolb_model.specs.Views.{own}
use Rattle.qolb_model.proofs.Lists.{never}
use Rattle.qolb_model.proofs.Prefixes.{prefix_get, prefix_self}
use Rattle.line_cells.specs.declared.local.Point.{Point}
use Rattle.line_cells.specs.declared.local.Point.TheVariants.{Idle}
use Rattle.line_generic.specs.declared.table.TableKey.{TableKey}
use Rattle.qolb_model.specs.Requests.{count_of}
use Rattle.line_cells.specs.Array.{ArrayGhost, At, has_line, is_releasing, is_unfinished, History, HasPassed, ViewInv, HolderInv, NodeInv}
use Rattle.qolb_model.specs.declared.view.View.{View}

-- what two points cannot share
pub clash_at : {q : Point} → (f : Point → Bool) (a : Point) → f q ≡ true → q ≡ a → f a ≡ false → ⊥
clash_at f a k e no_a = never k (ap f e ∙ no_a)

-- a node whose request is not clear has made one
pub kept_asked : (q : Point) → is_unfinished q ≡ true → q ≢ Idle
kept_asked q k e = clash_at is_unfinished Idle k e refl

-- what was passed stays passed, as long as the release goes on
pub passed_goes : (n p : ℕ) (v w : ArrayGhost) (ended ended' : ℕ) (clear clear' : List Request) (marks marks' releaser_of releaser_of' : ℕ → ℕ) (h : HasPassed ended clear marks releaser_of n v p) → is_releasing w.own.point ≡ true → releaser_of' p ≡ releaser_of p → ended ≤ ended' → 0 < marks' p → IsPrefix v.view.order w.view.order
    → Lacks clear' h.request → HasPassed ended' clear' marks' releaser_of' n w p
passed_goes n p v w ended ended' clear clear' marks marks' releaser_of releaser_of' h going same longer marked orders unclear = record {
  in_release = going;
  releaser_is = same ∙ h.releaser_is;
  within = let a = h.within in omega arith;
  marked = marked;
  request = h.request;
  at = prefix_get v.view.order w.view.order p h.request orders h.at;
  unclear = unclear;
}

-- the node does not have the line
pub hand_none : (ends : List End) (holder : ℕ) (cleared : Bool) (n : ℕ) (w : ArrayGhost) → has_line w.own.point ≡ false → holder ≢ n → w.view.state ≢ port_state.Holding → HolderInv ends holder cleared n w
hand_none ends holder cleared n w none other idle = record { holds = λ e. absurd (never e none); lacks = λ _. other; is_holder = λ e. absurd (idle e) }

-- the node knows the whole history
pub knows_whole : (order : List Request) (ends : List End) (clear : List Request) (n : ℕ) (w : View) → w.order ≡ order → w.ends ≡ ends → w.clear ≡ clear → count_of n order ≡ w.count → ((r : Request) → Has w.freed r → Has clear r) → ViewInv order ends clear n w
knows_whole order ends clear n w a b c count freed = record {
  orders = subst (IsPrefix w.order) a (prefix_self w.order);
  endings = subst (IsPrefix w.ends) b (prefix_self w.ends);
  clears = subst (IsPrefix w.clear) c (prefix_self w.clear);
  counts = count;
  own_ends = λ p r end _ _ en _. subst (λ es. p < length es) (sym b) (slice_get_within ends p end en);
  freed_clear = λ r h. subst (λ rs. Has rs r) (sym c) (freed r h);
}

-- the node's last request is in the order
pub placed_at : (key : TableKey) (x : History) (n : ℕ) (v : ArrayGhost) → NodeInv key x n v → 0 < v.view.count → At x.order v.own.place (own v.view)
placed_at key x n v ok c = prefix_get v.view.order x.order v.own.place (own v.view) ok.knows.orders (ok.last_request.placed c)
