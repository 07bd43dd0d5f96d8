-- Proof about the atomic step with which a release frees the node of the first request that the release has skipped.
-- Once a node is freed, it can request the line again.
use Rattle.std.proofs.Common.{◌≡◌, ◌≢◌, ℕ, suc, ◌+◌, ◌<◌, ◌≤◌, List, [], ◌∷◌, ◌++◌, length, set, true, sym, refl, ap, ◌∙◌, subst, ⊎_elim, arith}
use mathlib.Core.List.{IsPrefix}
use mathlib.Core.Option.{none, some}
use lib.ListN.{get_elem?}
use Rattle.atomic_table.specs.Table.{step, keeps, Allows}
use Rattle.qolb_model.specs.declared.request.Request.{Request}
use Rattle.qolb_model.specs.Requests.{Has, Lacks}
use Rattle.qolb_model.specs.Views.{own}
use Rattle.qolb_model.specs.Sound.{Continues}
use Rattle.qolb_model.proofs.Prefixes.{prefix_self, prefix_get, prefix_more}
use Rattle.qolb_model.proofs.Requests.{has_left, has_last, has_push, lacks_from, same_place, has_prefix, lacks_push}
use Rattle.qolb_model.proofs.Lists.{never, at_same}
use Rattle.qolb_model.specs.declared.config.TheConstants.{MAX_NODES}
use Rattle.qolb_model.proofs.Updates.{put, put_else}
use Rattle.line_cells.specs.declared.local.Point.TheVariants.{Idle, Queued, Holding, Freeing, Rolled}
use Rattle.line_generic.specs.declared.table.TableKey.{TableKey}
use Rattle.line_cells.specs.Layout.{node_at}
use Rattle.line_cells.specs.SlotLayout.{SlotLayout, Homes}
use Rattle.line_cells.specs.Array.{ArrayGhost, ArrayState, At, Cells, History, HasPassed, NodeInv, HistoryInv, Represents, ArrayRule, has_line, is_unfinished}
use Rattle.line_cells.specs.Steps.{single, SeatContents, after_walk, Frees, freed}
use Rattle.line_cells.proofs.OneNode.{clash_at, passed_goes, placed_at, hand_none}
use Rattle.line_cells.proofs.Nodes.{others_clear, others_free}
use Rattle.line_cells.proofs.Histories.{continues}
use Rattle.line_cells.proofs.Keeping.{rule_step, mine_ok, flag_shown}
use Rattle.line_cells.proofs.Clearing.{not_after, no_line_after, goes_after, clear_with, more_clear, still_unclear, fine_clear, fine_flags}
use Rattle.line_cells.proofs.Turning.{goes_step}

module _ (cells : Cells) (slot_layout : SlotLayout) (good : List ℕ → Type 0) (allows : List ℕ → List ℕ → Type 0) (key : TableKey) (v : ArrayGhost) (freeing : v.own.point ≡ Freeing) (q : ℕ) (ps : List ℕ) (whole : v.own.passed ≡ q ∷ ps) (r : Request) (known : At v.view.order q r) where
  abbrev Rule : ArrayState → Type 0
  Rule = ArrayRule cells slot_layout good allows key

  abbrev free_past : History → History
  free_past x = record x { clear = clear_with (own v.view) ps (x.clear ++ r ∷ []); flags = put x.flags r.node 1 }

  abbrev free_entry : History → ArrayGhost
  free_entry x = record v { view = record v.view { clear = clear_with (own v.view) ps (x.clear ++ r ∷ []); freed = v.view.freed ++ r ∷ [] }; own = record v.own { point = after_walk ps; passed = ps }; steps = v.steps + 1 }

  not_idle : v.own.point ≢ Idle
  not_idle e = let f = freeing in cc

  not_rolled : v.own.point ≢ Rolled
  not_rolled e = let f = freeing in cc

  first : At v.own.passed 0 q
  first = subst (λ (l : List ℕ). At l 0 q) (sym whole) refl

  later : (i p : ℕ) → At ps i p → At v.own.passed (suc i) p
  later i p at = subst (λ (l : List ℕ). At l (suc i) p) (sym whole) at

  module _ (x : History) (f : HistoryInv good allows key x) (ok : NodeInv key x v.view.node v) where
    it : HasPassed (length x.ends) x.clear x.marks x.releaser_of v.view.node v q
    it = ok.passes.passed 0 q first

    asked : At x.order q r
    asked = prefix_get v.view.order x.order q r ok.knows.orders known

    unclear : Lacks x.clear r
    unclear = subst (Lacks x.clear) (at_same v.view.order q it.request r it.at known) it.unclear

    ended : q < length x.ends
    ended = ok.passes.freeing freeing 0 q first

    placed : At x.order v.own.place (own v.view)
    placed = placed_at key x v.view.node v ok (ok.last_request.asked not_idle)

    unmarked : x.marks v.own.place ≡ 0
    unmarked = ok.marks.unmarked (ap is_unfinished freeing)

    -- the passed request is of another node
    other : r.node ≢ v.view.node
    other e = not_rolled (ok.marks.last q r asked e it.marked unclear).0

    own_unclear : Lacks (x.clear ++ r ∷ []) (own v.view)
    own_unclear = lacks_push x.clear r (own v.view) (λ e. other (sym (ap (λ (z : Request). z.node) e))) (ok.marks.unclear (ap is_unfinished freeing))

    more : (s : Request) → Has x.clear s → Has (clear_with (own v.view) ps (x.clear ++ r ∷ [])) s
    more s h = more_clear (own v.view) ps (x.clear ++ r ∷ []) s (has_left x.clear (r ∷ []) s h)

    -- after the last passed node is freed, the node's own request is clear
    own_clear : (l : List ℕ) → after_walk l ≡ Idle → Has (clear_with (own v.view) l (x.clear ++ r ∷ [])) (own v.view)
    own_clear [] e = has_last (x.clear ++ r ∷ []) (own v.view)
    own_clear (p ∷ l) e = absurd (cc e)

    free_node : NodeInv key (free_past x) v.view.node (free_entry x)
    free_node = record {
      who = record { node = refl; label = ok.who.label; config = ok.who.config };
      knows = record {
        orders = ok.knows.orders;
        endings = ok.knows.endings;
        clears = prefix_self (clear_with (own v.view) ps (x.clear ++ r ∷ []));
        counts = ok.knows.counts;
        own_ends = ok.knows.own_ends;
        freed_clear = λ s h. ⊎_elim (λ z. more s (has_prefix v.view.clear x.clear s ok.knows.clears (ok.knows.freed_clear s z)))
            (λ z. more_clear (own v.view) ps (x.clear ++ r ∷ []) s (subst (Has (x.clear ++ r ∷ [])) (sym z) (has_last x.clear r))) (has_push v.view.freed r s h);
      };
      last_request = record {
        asked = λ _. ok.last_request.asked not_idle;
        placed = ok.last_request.placed;
        last_open = ok.last_request.last_open;
        idle = λ e _. ((ok.last_request.freeing freeing), own_clear ps e);
        queued = λ e. absurd (not_after ps Queued (λ i. cc) (λ i. cc) e);
        holds_open = λ e. absurd (not_after ps Holding (λ i. cc) (λ i. cc) e);
        freeing = λ _. ok.last_request.freeing freeing;
        waits = λ _ h. let e = ok.last_request.freeing freeing in absurd (omega arith);
      };
      holder = hand_none x.ends x.holder x.cleared v.view.node (free_entry x) (no_line_after ps) (ok.holder.lacks (ap has_line freeing)) (λ e. clash_at has_line Freeing (ok.holder.is_holder e).0 freeing refl);
      passes = record {
        walking = λ _ l. absurd (never l (no_line_after ps));
        freeing = λ _ i p at. ok.passes.freeing freeing (suc i) p (later i p at);
        passed = λ i p at. let h = ok.passes.passed (suc i) p (later i p at) in passed_goes v.view.node p v (free_entry x) (length x.ends) (length x.ends) x.clear (clear_with (own v.view) ps (x.clear ++ r ∷ [])) x.marks x.marks x.releaser_of x.releaser_of h (goes_after ps i p at) refl (omega arith) h.marked (prefix_self v.view.order)
            (still_unclear (own v.view) ps (x.clear ++ r ∷ []) h.request i p at (lacks_push x.clear r h.request (λ e. apart i p at (same_place x.order f.legal.numbered p q h.request (prefix_get v.view.order x.order p h.request ok.knows.orders h.at) (subst (At x.order q) (sym e) asked))) h.unclear));
        once = λ i j p a b. let e = ok.passes.once (suc i) (suc j) p (later i p a) (later j p b) in omega arith;
      };
      marks = record {
        unmarked = λ _. unmarked;
        unclear = λ k. own_kept ps k;
        rolled = λ e. absurd (not_after ps Rolled (λ i. cc) (λ i. cc) e);
        known = ok.marks.known;
        last = λ p s at mine h lacks. absurd (not_rolled (ok.marks.last p s at mine h (lacks_from x.clear s (λ was. never (more s was) lacks))).0);
        all = ok.marks.all;
      };
      flag = record {
        rolled = λ e. absurd (not_after ps Rolled (λ i. cc) (λ i. cc) e);
        not_rolled = λ _. put_else x.flags r.node 1 v.view.node (λ e. other (sym e)) ∙ ok.flag.not_rolled not_rolled;
      };
      joins = ok.joins;
    }
      where
        own_kept : (l : List ℕ) → is_unfinished (after_walk l) ≡ true → Lacks (clear_with (own v.view) l (x.clear ++ r ∷ [])) (own v.view)
        own_kept [] e = absurd (cc e)
        own_kept (p ∷ l) e = own_unclear

        apart : (i p : ℕ) → At ps i p → p ≢ q
        apart i p at e = let s = ok.passes.once (suc i) 0 p (later i p at) (subst (At v.own.passed 0) (sym e) first) in omega arith

    free_fine : HistoryInv good allows key (free_past x)
    free_fine = go ps
      where
        one : HistoryInv good allows key (record x { clear = x.clear ++ r ∷ []; flags = put x.flags r.node 1 })
        one = fine_flags good allows key (record x { clear = x.clear ++ r ∷ [] }) (put x.flags r.node 1) (fine_clear good allows key x q r f ended asked unclear)

        go : (l : List ℕ) → HistoryInv good allows key (record x { clear = clear_with (own v.view) l (x.clear ++ r ∷ []); flags = put x.flags r.node 1 })
        go [] = fine_clear good allows key (record x { clear = x.clear ++ r ∷ []; flags = put x.flags r.node 1 }) v.own.place (own v.view) one (ok.last_request.freeing freeing) placed own_unclear
        go (p ∷ l) = one

    free_others : (n : ℕ) (u : ArrayGhost) → n ≢ v.view.node → NodeInv key x n u → NodeInv key (free_past x) n u
    free_others n u ne k = go ps
      where
        one : NodeInv key (record x { clear = x.clear ++ r ∷ []; flags = put x.flags r.node 1 }) n u
        one = others_free key x n u k v.view.node q r asked it.releaser_is it.marked unclear ne f.legal

        go : (l : List ℕ) → NodeInv key (record x { clear = clear_with (own v.view) l (x.clear ++ r ∷ []); flags = put x.flags r.node 1 }) n u
        go [] = others_clear key (record x { clear = x.clear ++ r ∷ []; flags = put x.flags r.node 1 }) n u one (own v.view) v.own.place (λ e. ne (sym e)) placed unmarked f.legal
        go (p ∷ l) = one

    free_shown : (words : List ℕ) (homes : Homes) (i : ℕ) → i ≡ node_at r.node → r.node ≤ MAX_NODES → Represents cells slot_layout good allows key x words homes → Represents cells slot_layout good allows key (free_past x) (set words i 1) homes
    free_shown words homes i is high h = flag_shown cells slot_layout good allows key x (clear_with (own v.view) ps (x.clear ++ r ∷ [])) words homes i r.node 1 is (f.nodes q r asked).0 (f.nodes q r asked).1 h

    learns_free : Continues allows v.view (free_entry x).view
    learns_free = continues good allows key x (free_past x) free_fine v.view.node v.view.node v (free_entry x) ok free_node refl (prefix_self v.view.order) (prefix_self v.view.ends) (wider ps)
        (λ s h. h) (λ s h. h) (λ s h. has_left v.view.freed (r ∷ []) s h)
      where
        wider : (l : List ℕ) → IsPrefix v.view.clear (clear_with (own v.view) l (x.clear ++ r ∷ []))
        wider [] = prefix_more v.view.clear (x.clear ++ r ∷ []) (own v.view ∷ []) (prefix_more v.view.clear x.clear (r ∷ []) ok.knows.clears)
        wider (p ∷ l) = prefix_more v.view.clear x.clear (r ∷ []) ok.knows.clears

    frees_of : Frees v ps r (free_entry x)
    frees_of = record {
      point = refl;
      passed = refl;
      state = refl;
      count = refl;
      order = refl;
      ends = refl;
      marked = refl;
      freed = has_last v.view.freed r;
      clear = more_clear (own v.view) ps (x.clear ++ r ∷ []) r (has_last x.clear r);
      own_clear = λ e. own_clear ps (ap after_walk e);
    }

  pub frees_next : (me slots i : ℕ) (m : SeatContents) → m.0 ≡ v ∷ [] → i ≡ node_at r.node → r.node ≤ MAX_NODES → Allows Rule slots me m i (λ _. 1) (λ _. freed allows (step slots i 1 0 none) m 0)
  frees_next me slots i m is word high s t deep at small = (
    free_entry t.history ∷ [],
    keeps,
    tt,
    rule_step cells slot_layout good allows key s t me v (free_entry t.history) (free_past t.history) (set s.words i 1) s.homes at' refl (free_fine t.history t.history_inv ok) (free_shown t.history t.history_inv ok s.words s.homes i word high t.shown) (free_node t.history t.history_inv ok)
        (λ n a b ne. free_others t.history t.history_inv ok n (t.who n) ne (t.each n a b)),
    (
      refl,
      goes_step allows m v (free_entry t.history) m.1 is (learns_free t.history t.history_inv ok) refl,
      subst (λ u. (q' : ℕ) (ps' : List ℕ) (r' : Request) → (single u).own.passed ≡ q' ∷ ps' → At (single u).view.order q' r' → Frees (single u) ps' r' (free_entry t.history)) (sym is) told,
    ),
  )
    where
      at' : get_elem? s.views me ≡ some (v ∷ [])
      at' = at ∙ ap some is

      ok : NodeInv key t.history v.view.node v
      ok = mine_ok cells slot_layout good allows key s t me v at'

      told : (q' : ℕ) (ps' : List ℕ) (r' : Request) → v.own.passed ≡ q' ∷ ps' → At v.view.order q' r' → Frees v ps' r' (free_entry t.history)
      told q' ps' r' e k =
          let both : q ∷ ps ≡ q' ∷ ps' = sym whole ∙ e in
          let same_q : q ≡ q' = cc in let same_ps : ps ≡ ps' = cc in
          let same_r : r ≡ r' = at_same v.view.order q' r r' (subst (λ z. At v.view.order z r) same_q known) k in
          subst (λ (z : List ℕ × Request). Frees v z.0 z.1 (free_entry t.history)) (λ j. (same_ps j, same_r j)) (frees_of t.history t.history_inv ok)
