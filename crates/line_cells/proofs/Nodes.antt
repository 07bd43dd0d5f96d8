-- Lemmas which show that an atomic step of one node preserves what the invariant states about every other node.
use Rattle.std.proofs.Common.{◌≡◌, ◌≢◌, ◌⊎◌, ℕ, ◌+◌, ◌<◌, ◌≤◌, List, [], ◌∷◌, ◌++◌, length, Bool, true, false, if◌then◌else◌, sym, refl, ap, ◌∙◌, subst, inl, inr, ⊎_elim, arith, length-append}
use mathlib.Core.Logic.{dite}
use native.Mathlib.Decide.{ℕ_discrete}
use Rattle.qolb_model.specs.declared.answer.PortState.{PortState}
use Rattle.qolb_model.specs.declared.answer.PortState.TheVariants as port_state
use Rattle.qolb_model.specs.declared.request.Request.{Request}
use Rattle.qolb_model.specs.declared.end.End.{End}
use Rattle.qolb_model.specs.Requests.{Has, Lacks}
use Rattle.qolb_model.specs.EndKinds.{is_gone}
use Rattle.qolb_model.specs.Histories.{IsLegal}
use Rattle.qolb_model.specs.Views.{own}
use Rattle.qolb_model.proofs.Lists.{never, push_cases, at_same, at_none, at_longer}
use Rattle.qolb_model.proofs.Prefixes.{prefix_get, prefix_self, prefix_more}
use Rattle.qolb_model.proofs.Requests.{count_of-push_other, has_left, has_last, same_place, has_prefix, has_push_else, lacks_push, lacked_push}
use Rattle.qolb_model.proofs.Updates.{put, put_here, put_else}
use Rattle.line_cells.specs.declared.local.Point.TheVariants.{Queued, Rolled}
use Rattle.line_generic.specs.declared.table.TableKey.{TableKey}
use Rattle.qolb_model.specs.PortStates.{may_ask}
use Rattle.line_cells.specs.Array.{ArrayGhost, At, has_line, is_releasing, is_unfinished, History, ViewInv, WalkInv, NodeInv}
use Rattle.qolb_model.specs.declared.view.View.{View}
use Rattle.line_cells.proofs.OneNode.{clash_at, kept_asked, passed_goes, hand_none, knows_whole, placed_at}

-- outside a release nothing is passed
module _ {n : ℕ} {v : ArrayGhost} {ended : ℕ} {clear : List Request} {marks releaser_of : ℕ → ℕ} (ok : WalkInv ended clear marks releaser_of n v) (idle : is_releasing v.own.point ≡ false) where
  pub none_passed : v.own.passed ≡ []
  none_passed = go v.own.passed refl
    where
      go : (l : List ℕ) → v.own.passed ≡ l → v.own.passed ≡ []
      go [] e = e
      go (p ∷ ps) e = absurd (never (ok.passed 0 p (subst (λ (z : List ℕ). At z 0 p) (sym e) refl)).in_release idle)

  pub passes_none : (w : ArrayGhost) (ended' : ℕ) (clear' : List Request) (marks' releaser_of' : ℕ → ℕ) → w.own.passed ≡ v.own.passed → is_releasing w.own.point ≡ false → WalkInv ended' clear' marks' releaser_of' n w
  passes_none w ended' clear' marks' releaser_of' same idle' = record {
    walking = λ going. absurd (never going idle');
    freeing = λ e i p at. absurd (none i p at);
    passed = λ i p at. absurd (none i p at);
    once = λ i j p at. absurd (none i p at);
  }
    where
      none : (i p : ℕ) → At w.own.passed i p → ⊥
      none i p at = at_none i p (subst (λ (z : List ℕ). At z i p) (same ∙ none_passed) at)

-- the node still knows this when another request becomes clear
pub knows_clear : (order : List Request) (ends : List End) (clear : List Request) (n : ℕ) (w : View) (q : Request) → ViewInv order ends clear n w → ViewInv order ends (clear ++ q ∷ []) n w
knows_clear order ends clear n w q k = record {
  orders = k.orders;
  endings = k.endings;
  clears = prefix_more w.clear clear (q ∷ []) k.clears;
  counts = k.counts;
  own_ends = k.own_ends;
  freed_clear = k.freed_clear;
}

module _ (key : TableKey) (x : History) (n : ℕ) (v : ArrayGhost) (ok : NodeInv key x n v) where
  -- the requests that the node had freed are clear
  pub freed_so : (r : Request) → Has v.view.freed r → Has x.clear r
  freed_so r h = has_prefix v.view.clear x.clear r ok.knows.clears (ok.knows.freed_clear r h)

  -- another node makes a request
  pub others_ask : (q : Request) → q.node ≢ n → NodeInv key (record x { order = x.order ++ q ∷ [] }) n v
  others_ask q other = record {
    who = ok.who;
    knows = record {
      orders = prefix_more v.view.order x.order (q ∷ []) ok.knows.orders;
      endings = ok.knows.endings;
      clears = ok.knows.clears;
      counts = count_of-push_other n x.order q other ∙ ok.knows.counts;
      own_ends = λ p r end at mine en kind. ok.knows.own_ends p r end (old p r at mine) mine en kind;
      freed_clear = ok.knows.freed_clear;
    };
    last_request = record {
      asked = ok.last_request.asked;
      placed = ok.last_request.placed;
      last_open = λ p r at mine h. ok.last_request.last_open p r (old p r at mine) mine h;
      idle = ok.last_request.idle;
      queued = ok.last_request.queued;
      holds_open = ok.last_request.holds_open;
      freeing = ok.last_request.freeing;
      waits = ok.last_request.waits;
    };
    holder = ok.holder;
    passes = ok.passes;
    marks = record {
      unmarked = ok.marks.unmarked;
      unclear = ok.marks.unclear;
      rolled = ok.marks.rolled;
      known = λ p r at mine h. ok.marks.known p r (old p r at mine) mine h;
      last = λ p r at mine h lacks. ok.marks.last p r (old p r at mine) mine h lacks;
      all = λ r h. let k = ok.marks.all r h in (k.0, at_longer x.order (q ∷ []) k.0 r k.1, k.2);
    };
    flag = ok.flag;
    joins = record {
      known = λ p r at mine. ok.joins.known p r (old p r at mine) mine;
      all = λ r h. has_left x.order (q ∷ []) r (ok.joins.all r h);
    };
  }
    where
      old : (p : ℕ) (r : Request) → At (x.order ++ q ∷ []) p r → r.node ≡ n → At x.order p r
      old p r at mine = ⊎_elim (λ t. t.1) (λ t. absurd (other (sym (ap (λ (z : Request). z.node) t.1) ∙ mine))) (push_cases x.order q p r at)

  -- another node has the line, or the cell at its turn is cleared
  pub others_hand : (holder : ℕ) (cleared : Bool) → x.holder ≢ n → holder ≢ n → NodeInv key (record x { holder = holder; cleared = cleared }) n v
  others_hand holder cleared was is = record {
    who = ok.who;
    knows = ok.knows;
    last_request = ok.last_request;
    holder = record { holds = λ e. absurd (was (ok.holder.holds e).1); lacks = λ _. is; is_holder = ok.holder.is_holder };
    passes = ok.passes;
    marks = ok.marks;
    flag = ok.flag;
    joins = ok.joins;
  }

  -- The request t at its turn ends, by a step of m, which has the line. Either t is m's own request, or it is withdrawn
  -- and ends so.
  pub others_end : (m : ℕ) (t : Request) (e : End) (releaser_of : ℕ → ℕ) → At x.order (length x.ends) t → (t.node ≡ m) ⊎ (0 < x.marks (length x.ends)) → (0 < x.marks (length x.ends) → is_gone e ≡ true) → n ≢ m → x.holder ≡ m
      → ((p : ℕ) → p ≤ length x.ends → releaser_of p ≡ x.releaser_of p) → NodeInv key (record x { ends = x.ends ++ e ∷ []; cleared = false; releaser_of = releaser_of }) n v
  others_end m t e releaser_of turn whose gone other had same = record {
    who = ok.who;
    knows = record {
      orders = ok.knows.orders;
      endings = prefix_more v.view.ends x.ends (e ∷ []) ok.knows.endings;
      clears = ok.knows.clears;
      counts = ok.knows.counts;
      own_ends = λ p r end at mine en kind. ⊎_elim (λ z. ok.knows.own_ends p r end at mine z.1 kind)
          (λ z. absurd (never (ap is_gone z.1 ∙ gone (marked_turn r (subst (λ q. At x.order q r) z.0 at) mine)) kind)) (push_cases x.ends e p end en);
      freed_clear = ok.knows.freed_clear;
    };
    last_request = record {
      asked = ok.last_request.asked;
      placed = ok.last_request.placed;
      last_open = λ p r at mine h. ok.last_request.last_open p r at mine (let l = longer in omega arith);
      idle = λ i c. let h = ok.last_request.idle i c in ((let l = longer in let a = h.0 in omega arith), h.1);
      queued = λ i. let h = ok.last_request.queued i in let q = not_turn i in let l = longer in omega arith;
      holds_open = λ i. absurd (no_line (ap has_line i));
      freeing = λ i. let h = ok.last_request.freeing i in let l = longer in omega arith;
      waits = λ k h. ok.last_request.waits k (let l = longer in omega arith);
    };
    holder = record { holds = λ l. absurd (no_line l); lacks = ok.holder.lacks; is_holder = λ h. absurd (no_line (ok.holder.is_holder h).0) };
    passes = record {
      walking = λ _ l. absurd (no_line l);
      freeing = λ i j p at. let h = ok.passes.freeing i j p at in let l = longer in omega arith;
      passed = λ i p at. let h = ok.passes.passed i p at in passed_goes n p v v (length x.ends) (length (x.ends ++ e ∷ [])) x.clear x.clear x.marks x.marks x.releaser_of releaser_of h h.in_release (same p h.within) (let l = longer in omega arith) h.marked (prefix_self v.view.order) h.unclear;
      once = ok.passes.once;
    };
    marks = ok.marks;
    flag = ok.flag;
    joins = ok.joins;
  }
    where
      longer : length (x.ends ++ e ∷ []) ≡ length x.ends + 1
      longer = length-append x.ends (e ∷ [])

      no_line : has_line v.own.point ≡ true → ⊥
      no_line l = other (sym (ok.holder.holds l).1 ∙ had)

      -- a request of n at its turn is withdrawn
      marked_turn : (r : Request) → At x.order (length x.ends) r → r.node ≡ n → 0 < x.marks (length x.ends)
      marked_turn r at mine = ⊎_elim (λ own_end. absurd (other (sym mine ∙ ap (λ (q : Request). q.node) (at_same x.order (length x.ends) r t at turn) ∙ own_end))) (λ h. h) whose

      not_turn : v.own.point ≡ Queued → v.own.place ≢ length x.ends
      not_turn i z = let k = marked_turn (own v.view) (subst (λ q. At x.order q (own v.view)) z (placed_at key x n v ok (ok.last_request.asked (λ idle. cc)))) ok.who.node in
          let w : x.marks (length x.ends) ≡ 0 = ap x.marks (sym z) ∙ ok.marks.unmarked (ap is_unfinished i) in omega arith

  -- another node's request, which is not withdrawn, goes on the clear list
  pub others_clear : (q : Request) (place : ℕ) → q.node ≢ n → At x.order place q → x.marks place ≡ 0 → IsLegal key.config.lease x.order x.ends → NodeInv key (record x { clear = x.clear ++ q ∷ [] }) n v
  others_clear q place other there unmarked legal = record {
    who = ok.who;
    knows = knows_clear x.order x.ends x.clear n v.view q ok.knows;
    last_request = ok.last_request;
    holder = ok.holder;
    passes = record {
      walking = ok.passes.walking;
      freeing = ok.passes.freeing;
      passed = λ i p at. let h = ok.passes.passed i p at in passed_goes n p v v (length x.ends) (length x.ends) x.clear (x.clear ++ q ∷ []) x.marks x.marks x.releaser_of x.releaser_of h h.in_release refl (omega arith) h.marked (prefix_self v.view.order)
          (lacks_push x.clear q h.request (λ e. let s = same_place x.order legal.numbered p place h.request (prefix_get v.view.order x.order p h.request ok.knows.orders h.at) (subst (At x.order place) (sym e) there) in
          let w : x.marks p ≡ 0 = ap x.marks s ∙ unmarked in let m = h.marked in omega arith) h.unclear);
      once = ok.passes.once;
    };
    marks = record {
      unmarked = ok.marks.unmarked;
      unclear = λ k. lacks_push x.clear q (own v.view) not_own (ok.marks.unclear k);
      rolled = ok.marks.rolled;
      known = ok.marks.known;
      last = λ p r at mine h lacks. ok.marks.last p r at mine h (lacked_push x.clear q r lacks);
      all = ok.marks.all;
    };
    flag = record { rolled = λ i. ok.flag.rolled i ∙ ap (λ b. if b then 1 else 0) (sym (has_push_else x.clear q (own v.view) not_own)); not_rolled = ok.flag.not_rolled };
    joins = ok.joins;
  }
    where
      not_own : own v.view ≢ q
      not_own e = other (sym (ap (λ (z : Request). z.node) e) ∙ ok.who.node)

  -- the node m withdraws its request, which is at the place q
  pub others_roll : (m q : ℕ) (r : Request) → At x.order q r → r.node ≡ m → 0 < m → n ≢ m → NodeInv key (record x { marks = put x.marks q m }) n v
  others_roll m q r asked mine low other = record {
    who = ok.who;
    knows = ok.knows;
    last_request = ok.last_request;
    holder = ok.holder;
    passes = record {
      walking = λ a l. ⊎_elim (λ z. inl z) (λ z. inr (z.0, more (length x.ends) z.1, z.2)) (ok.passes.walking a l);
      freeing = ok.passes.freeing;
      passed = λ i p at. let h = ok.passes.passed i p at in passed_goes n p v v (length x.ends) (length x.ends) x.clear x.clear x.marks (put x.marks q m) x.releaser_of x.releaser_of h h.in_release refl (omega arith) (more p h.marked) (prefix_self v.view.order) h.unclear;
      once = ok.passes.once;
    };
    marks = record {
      unmarked = λ k. own_place (ok.last_request.asked (kept_asked v.own.point k)) ∙ ok.marks.unmarked k;
      unclear = ok.marks.unclear;
      rolled = λ i. own_place (ok.last_request.asked (λ e. cc)) ∙ ok.marks.rolled i;
      known = λ p s at is h. ok.marks.known p s at is (subst (λ z. 0 < z) (place_else p s at is) h);
      last = λ p s at is h lacks. ok.marks.last p s at is (subst (λ z. 0 < z) (place_else p s at is) h) lacks;
      all = λ s h. let k = ok.marks.all s h in (k.0, k.1, more k.0 k.2);
    };
    flag = ok.flag;
    joins = ok.joins;
  }
    where
      -- marks only grow
      more : (p : ℕ) → 0 < x.marks p → 0 < put x.marks q m p
      more p h = dite (ℕ_discrete p q) (λ e. subst (λ k. 0 < k) (sym (ap (put x.marks q m) e ∙ put_here x.marks q m)) low) (λ ne. subst (λ k. 0 < k) (sym (put_else x.marks q m p ne)) h)

      place_else : (p : ℕ) (s : Request) → At x.order p s → s.node ≡ n → put x.marks q m p ≡ x.marks p
      place_else p s at is = put_else x.marks q m p (λ e. other (sym is ∙ ap (λ (z : Request). z.node) (at_same x.order q s r (subst (λ k. At x.order k s) e at) asked) ∙ mine))

      own_place : 0 < v.view.count → put x.marks q m v.own.place ≡ x.marks v.own.place
      own_place c = place_else v.own.place (own v.view) (placed_at key x n v ok c) ok.who.node

  -- the release of m frees the node of the request r, at the place q, which it passed
  pub others_free : (m q : ℕ) (r : Request) → At x.order q r → x.releaser_of q ≡ m → 0 < x.marks q → Lacks x.clear r → n ≢ m → IsLegal key.config.lease x.order x.ends → NodeInv key (record x { clear = x.clear ++ r ∷ []; flags = put x.flags r.node 1 }) n v
  others_free m q r asked releaser_of marked unclear other legal = record {
    who = ok.who;
    knows = knows_clear x.order x.ends x.clear n v.view r ok.knows;
    last_request = ok.last_request;
    holder = ok.holder;
    passes = record {
      walking = ok.passes.walking;
      freeing = ok.passes.freeing;
      passed = λ i p at. let h = ok.passes.passed i p at in passed_goes n p v v (length x.ends) (length x.ends) x.clear (x.clear ++ r ∷ []) x.marks x.marks x.releaser_of x.releaser_of h h.in_release refl (omega arith) h.marked (prefix_self v.view.order)
          (lacks_push x.clear r h.request (λ e. other (sym h.releaser_is ∙ ap x.releaser_of (same_place x.order legal.numbered p q h.request (prefix_get v.view.order x.order p h.request ok.knows.orders h.at) (subst (At x.order q) (sym e) asked)) ∙ releaser_of)) h.unclear);
      once = ok.passes.once;
    };
    marks = record {
      unmarked = ok.marks.unmarked;
      unclear = λ k. lacks_push x.clear r (own v.view) (λ e. clash_at is_unfinished Rolled k (last (sym (ap (λ (z : Request). z.node) e) ∙ ok.who.node)).0 refl) (ok.marks.unclear k);
      rolled = ok.marks.rolled;
      known = ok.marks.known;
      last = λ p s at is h lacks. ok.marks.last p s at is h (lacked_push x.clear r s lacks);
      all = ok.marks.all;
    };
    flag = record {
      rolled = λ i. dite (ℕ_discrete n r.node)
          (λ e. ap (put x.flags r.node 1) e ∙ put_here x.flags r.node 1 ∙ ap (λ b. if b then 1 else 0) (sym (subst (Has (x.clear ++ r ∷ [])) (is_own i e) (has_last x.clear r))))
          (λ ne. put_else x.flags r.node 1 n ne ∙ ok.flag.rolled i ∙ ap (λ b. if b then 1 else 0) (sym (has_push_else x.clear r (own v.view) (λ e. ne (sym ok.who.node ∙ ap (λ (z : Request). z.node) e)))));
      not_rolled = λ i. dite (ℕ_discrete n r.node) (λ e. absurd (i (last (sym e)).0)) (λ ne. put_else x.flags r.node 1 n ne ∙ ok.flag.not_rolled i);
    };
    joins = ok.joins;
  }
    where
      last : r.node ≡ n → (v.own.point ≡ Rolled) × (v.own.place ≡ q)
      last e = ok.marks.last q r asked e marked unclear

      is_own : v.own.point ≡ Rolled → n ≡ r.node → r ≡ own v.view
      is_own i e = at_same x.order q r (own v.view) asked (subst (λ k. At x.order k (own v.view)) (last (sym e)).1 (placed_at key x n v ok (ok.last_request.asked (λ z. cc))))

  -- another node clears its own word
  pub others_reset : (m : ℕ) → n ≢ m → NodeInv key (record x { flags = put x.flags m 0 }) n v
  others_reset m other = record {
    who = ok.who;
    knows = ok.knows;
    last_request = ok.last_request;
    holder = ok.holder;
    passes = ok.passes;
    marks = ok.marks;
    flag = record { rolled = λ i. put_else x.flags m 0 n other ∙ ok.flag.rolled i; not_rolled = λ i. put_else x.flags m 0 n other ∙ ok.flag.not_rolled i };
    joins = ok.joins;
  }

  -- the node learns the whole history by a step, at an unchanged point
  abbrev pub learned : PortState → ArrayGhost
  learned state = record v { view = record v.view { state = state; order = x.order; ends = x.ends; clear = x.clear }; steps = v.steps + 1 }

  pub learned_ok : (state : PortState) → state ≢ port_state.Holding → is_releasing v.own.point ≡ false → has_line v.own.point ≡ false → (is_unfinished v.own.point ≡ true → may_ask state ≡ false) → NodeInv key x n (learned state)
  learned_ok state idle resting without waits = record {
    who = record { node = ok.who.node; label = ok.who.label; config = ok.who.config };
    knows = knows_whole x.order x.ends x.clear n (learned state).view refl refl refl ok.knows.counts freed_so;
    last_request = record {
      asked = ok.last_request.asked;
      placed = placed_at key x n v ok;
      last_open = ok.last_request.last_open;
      idle = λ i c. let h = ok.last_request.idle i c in (h.0, has_prefix v.view.clear x.clear (own v.view) ok.knows.clears h.1);
      queued = ok.last_request.queued;
      holds_open = ok.last_request.holds_open;
      freeing = ok.last_request.freeing;
      waits = λ k _. waits k;
    };
    holder = hand_none x.ends x.holder x.cleared n (learned state) without (ok.holder.lacks without) idle;
    passes = passes_none ok.passes resting (learned state) (length x.ends) x.clear x.marks x.releaser_of refl resting;
    marks = record { unmarked = ok.marks.unmarked; unclear = ok.marks.unclear; rolled = ok.marks.rolled; known = ok.marks.known; last = ok.marks.last; all = ok.marks.all };
    flag = record { rolled = ok.flag.rolled; not_rolled = ok.flag.not_rolled };
    joins = ok.joins;
  }
