-- Proof that what the ports know about a line (their views) agrees with a single history of the line. The proof uses
-- the invariant of each node.
use Rattle.std.proofs.Common.{◌≡◌, ◌⊎◌, ℕ, ◌<◌, ◌≤◌, inl, inr, Bool, false, List, [], ◌∷◌, length, true, sym, refl, ap, ◌∙◌, subst, Some, arith}
use mathlib.Core.List.{IsPrefix}
use Rattle.qolb_model.specs.declared.request.Request.{Request}
use Rattle.qolb_model.specs.declared.view.View.{View}
use Rattle.qolb_model.specs.EndKinds.{is_gone}
use Rattle.qolb_model.specs.Requests.{Has, Lacks, has, count_of}
use Rattle.qolb_model.specs.Views.{own}
use Rattle.qolb_model.specs.OneHistory.{IsAmong, Knows, OneHistory}
use Rattle.qolb_model.specs.Kept.{AreAllowed}
use Rattle.qolb_model.specs.Sound.{Continues, KnowsOwnHistory}
use Rattle.qolb_model.specs.PortStates.{may_ask}
use Rattle.qolb_model.specs.declared.config.LineConfig.{LineConfig}
use Rattle.qolb_model.specs.declared.end.End.{End}
use Rattle.std.proofs.lemmas.Bool.{cases_lt}
use Rattle.line_cells.specs.declared.local.Point.{Point}
use Rattle.qolb_model.proofs.Lists.{element_at, same_test, at_same}
use Rattle.qolb_model.proofs.Prefixes.{prefix_get}
use Rattle.qolb_model.proofs.Requests.{place_of_request, same_place, lacks_from}
use Rattle.qolb_model.proofs.Writes.{allowed-begins}
use Rattle.qolb_model.proofs.Agreeing.{among_one}
use Rattle.line_cells.specs.declared.local.Point.TheVariants.{Idle, Queued, Holding, Passing, Cleared, Freeing, Rolled}
use Rattle.line_generic.specs.declared.table.TableKey.{TableKey}
use Rattle.line_cells.specs.Array.{ArrayGhost, At, History, NodeInv, HistoryInv, has_line, is_unfinished}
use Rattle.line_cells.proofs.OneNode.{placed_at, clash_at, kept_asked}

module _ (good : List ℕ → Type 0) (allows : List ℕ → List ℕ → Type 0) (key : TableKey) where
  -- a request that a node knows to be withdrawn is marked at its place
  pub marked_at : (x : History) → HistoryInv good allows key x → (n : ℕ) (v : ArrayGhost) → NodeInv key x n v → (p : ℕ) (r : Request) → At x.order p r → Has v.view.marked r → 0 < x.marks p
  marked_at x f n v ok p r at h = let k = ok.marks.all r h in subst (λ q. 0 < x.marks q) (same_place x.order f.legal.numbered k.0 p r k.1 at) k.2

  -- a request that is kept is not withdrawn
  pub not_withdrawn : (x : History) → HistoryInv good allows key x → (n : ℕ) (v : ArrayGhost) → NodeInv key x n v → is_unfinished v.own.point ≡ true → Lacks v.view.marked (own v.view)
  not_withdrawn x f n v ok kept = lacks_from v.view.marked (own v.view) (λ h. let m = marked_at x f n v ok v.own.place (own v.view) (placed_at key x n v ok (ok.last_request.asked (kept_asked v.own.point kept))) h in let z = ok.marks.unmarked kept in omega arith)

  pub knows_of : (x : History) → HistoryInv good allows key x → (n : ℕ) (v : ArrayGhost) → NodeInv key x n v → Knows key.config x.order x.ends x.clear v.view
  knows_of x f n v ok = record {
    config_is = ok.who.config;
    of_line = f.nodes;
    order_begins = ok.knows.orders;
    ends_begin = ok.knows.endings;
    clear_begins = ok.knows.clears;
    own_count = ap (λ m. count_of m x.order) ok.who.node ∙ ok.knows.counts;
    own_ends = λ p r e at en mine gone.
        let here = element_at v.view.ends p (ok.knows.own_ends p r e at (mine ∙ ok.who.node) en gone) in
        here.1 ∙ ap Some (at_same x.ends p here.0 e (prefix_get v.view.ends x.ends p here.0 ok.knows.endings here.1) en);
    own_marks = λ p r e at en mine. same_test (has v.view.marked r) (is_gone e) (λ h. (f.gone p e en).1 (marked_at x f n v ok p r at h)) (λ g. ok.marks.known p r at (mine ∙ ok.who.node) ((f.gone p e en).0 g));
    own_open = λ p r l at mine. let k = ok.last_request.last_open p r at (mine ∙ ok.who.node) l in at_same x.order p r (own v.view) at (subst (λ q. At x.order q (own v.view)) (sym k.1) (placed_at key x n v ok k.0));
    holder = λ e. let h = ok.holder.is_holder e in subst (λ q. At x.order q (own v.view)) h.1 (placed_at key x n v ok (ok.last_request.asked (λ i. clash_at has_line Idle h.0 i refl)));
  }

  -- views of nodes of one table
  abbrev pub one_history : (x : History) → HistoryInv good allows key x → (views : List View) → ((v : View) → IsAmong views v → (n : ℕ) × (e : ArrayGhost) × (e.view ≡ v) × NodeInv key x n e) → OneHistory views
  one_history x f views all = record {
    config = key.config;
    order = x.order;
    ends = x.ends;
    clear = x.clear;
    legal = f.legal;
    cleared = f.cleared;
    known = λ v i. let a = all v i in subst (λ z. Knows key.config x.order x.ends x.clear z) a.2 (knows_of x f a.0 a.1 a.3);
    agreed = λ v w i j. let a = all v i in let b = all w j in record {
      joined = λ r mine h.
          let o = place_of_request x.order r (a.3.joins.all r (subst (λ (z : View). Has z.joined r) (sym a.2) h)) in
          subst (λ (z : View). Has z.joined r) b.2 (b.3.joins.known o.0 r o.1 (mine ∙ ap (λ (z : View). z.node) (sym b.2) ∙ b.3.who.node));
      marked = λ r mine h.
          let o = a.3.marks.all r (subst (λ (z : View). Has z.marked r) (sym a.2) h) in
          subst (λ (z : View). Has z.marked r) b.2 (b.3.marks.known o.0 r o.1 (mine ∙ ap (λ (z : View). z.node) (sym b.2) ∙ b.3.who.node) o.2);
    };
  }

  pub alone_history : (x : History) → HistoryInv good allows key x → (n : ℕ) (w : ArrayGhost) → NodeInv key x n w → OneHistory (w.view ∷ [])
  alone_history x f n w ok = one_history x f (w.view ∷ []) (λ v i. (n, w, sym (among_one w.view v i), ok))

  -- a node knows what became of each of its requests: a request that has no end is its last, and waits or holds
  pub own_history : (x : History) → HistoryInv good allows key x → (n : ℕ) (w : ArrayGhost) → NodeInv key x n w → KnowsOwnHistory w.view
  own_history x f n w ok p r known mine = elim (cases_lt p (length x.ends)) [
    | inl ended ↦ (let end = element_at x.ends p ended in go end.0 end.1 (is_gone end.0) refl)
    | inr later ↦ (let o = ok.last_request.last_open p r at is_mine later in waiting o.0 o.1 later w.own.point refl)
  ]
    where
      is_mine : r.node ≡ n
      is_mine = mine ∙ ok.who.node

      at : At x.order p r
      at = prefix_get w.view.order x.order p r ok.knows.orders known

      go : (end : End) → At x.ends p end → (b : Bool) → is_gone end ≡ b → (p < length w.view.ends) ⊎ (Has w.view.marked r ⊎ ((r ≡ own w.view) × (may_ask w.view.state ≡ false)))
      go end en false kind = inl (ok.knows.own_ends p r end at is_mine en kind)
      go end en true kind = inr (inl (ok.marks.known p r at is_mine ((f.gone p end en).0 kind)))

      kept : 0 < w.view.count → p ≡ w.own.place → length x.ends ≤ p → is_unfinished w.own.point ≡ true → (p < length w.view.ends) ⊎ (Has w.view.marked r ⊎ ((r ≡ own w.view) × (may_ask w.view.state ≡ false)))
      kept c is later k = inr (inr (at_same x.order p r (own w.view) at (subst (λ q. At x.order q (own w.view)) (sym is) (placed_at key x n w ok c)), ok.last_request.waits k (omega arith)))

      waiting : 0 < w.view.count → p ≡ w.own.place → length x.ends ≤ p → (q : Point) → w.own.point ≡ q → (p < length w.view.ends) ⊎ (Has w.view.marked r ⊎ ((r ≡ own w.view) × (may_ask w.view.state ≡ false)))
      waiting c is later Idle e = absurd (let h = (ok.last_request.idle e c).0 in omega arith)
      waiting c is later Queued e = kept c is later (ap is_unfinished e)
      waiting c is later Holding e = kept c is later (ap is_unfinished e)
      waiting c is later Passing e = kept c is later (ap is_unfinished e)
      waiting c is later Cleared e = kept c is later (ap is_unfinished e)
      waiting c is later Freeing e = kept c is later (ap is_unfinished e)
      waiting c is later Rolled e = inr (inl (ok.marks.known p r at is_mine (let l = f.nodes p r at in let m : x.marks p ≡ n = ap x.marks is ∙ ok.marks.rolled e in omega (arith, l.0, is_mine))))

  -- a node goes on from one history to a longer one
  pub continues : (x x' : History) → HistoryInv good allows key x' → (n m : ℕ) (v w : ArrayGhost) → NodeInv key x n v → NodeInv key x' m w → n ≡ m → IsPrefix v.view.order w.view.order → IsPrefix v.view.ends w.view.ends → IsPrefix v.view.clear w.view.clear
      → ((r : Request) → Has v.view.joined r → Has w.view.joined r) → ((r : Request) → Has v.view.marked r → Has w.view.marked r) → ((r : Request) → Has v.view.freed r → Has w.view.freed r) → Continues allows v.view w.view
  continues x x' f n m v w ok ok' same orders endings clears joined marked freed = record {
    extends = record {
      label = ok'.who.label ∙ sym ok.who.label;
      config = ok'.who.config ∙ sym ok.who.config;
      node = ok'.who.node ∙ sym same ∙ sym ok.who.node;
      order = orders;
      ends = endings;
      clear = clears;
      joined = joined;
      marked = marked;
      freed = freed;
    };
    history = alone_history x' f m w ok';
    kept = subst (λ (t : LineConfig). AreAllowed allows t.opening.bytes w.view.ends) (sym ok'.who.config)
        (allowed-begins allows key.config.opening.bytes w.view.ends ok'.knows.endings.0 (subst (AreAllowed allows key.config.opening.bytes) (sym ok'.knows.endings.1) f.kept));
    freed_clear = λ p r next _ _ h _. ok'.knows.freed_clear r h;
    own_history = own_history x' f m w ok';
  }
