-- Proof about the atomic step with which a release grants the next cell, and thereby ends the request whose turn it is.
-- If no request was withdrawn at the next cell, no node has the line after this step. Otherwise the releasing node
-- still has the line, and skips the withdrawn request.
use Rattle.std.proofs.Common.{◌≡◌, ◌≢◌, ◌⊎◌, ℕ, ◌+◌, ◌<◌, ◌≤◌, List, [], ◌∷◌, ◌++◌, length, set, slice_index, Bool, true, false, Option, None, Some, ◌||◌, sym, refl, ap, ◌∙◌, subst, inl, inr, ⊎_elim, arith, length-append, mod-lt}
use mathlib.Core.Logic.{dite}
use mathlib.Core.List.{IsPrefix}
use mathlib.Core.Option.{none, some}
use native.Mathlib.Decide.{ℕ_discrete}
use lib.ListN.{get_elem?}
use Rattle.std.proofs.lemmas.Option.{slice_get_within}
use Rattle.atomic_table.specs.Table.{Act, Valid, homes_after, carried_after, step, Allows}
use Rattle.atomic_table.proofs.Lists.{set_here}
use Rattle.qolb_model.specs.declared.request.Request.{Request}
use Rattle.qolb_model.specs.declared.end.End.{End}
use Rattle.qolb_model.specs.Requests.{Has, Lacks}
use Rattle.qolb_model.specs.Ends.{is_closed, bytes_after, MayEnd}
use Rattle.qolb_model.specs.EndKinds.{is_gone}
use Rattle.qolb_model.specs.Views.{own}
use Rattle.qolb_model.specs.Kept.{AreAllowed}
use Rattle.qolb_model.specs.Sound.{Continues}
use Rattle.qolb_model.proofs.Lists.{push_cases, never, at_same}
use Rattle.qolb_model.proofs.Requests.{has_last, lacks_from, same_place}
use Rattle.qolb_model.specs.declared.config.TheConstants.{MAX_NODES}
use Rattle.qolb_model.proofs.Prefixes.{prefix_more}
use Rattle.qolb_model.proofs.Updates.{put, put_here, put_else}
use Rattle.line_cells.specs.declared.local.Point.TheVariants.{Idle, Queued, Holding, Passing, Rolled}
use Rattle.line_generic.specs.declared.table.TableKey.{TableKey}
use Rattle.line_generic.specs.declared.table.Payload.{Payload}
use Rattle.line_cells.specs.Layout.{cell_at, cells_in, cell_of}
use Rattle.line_generic.specs.Slots.{Slots}
use Rattle.line_cells.specs.SlotLayout.{SlotLayout, Homes, IsBehind, IsSpare}
use Rattle.line_cells.specs.Array.{ArrayGhost, ArrayState, At, Cells, History, HasPassed, Walks, NodeInv, HistoryInv, ArrayRule, has_line, is_unfinished, is_cleared}
use Rattle.line_cells.specs.Steps.{SeatContents, next_end, after_walk, IsNextPayload, Ended, IsHandedOver, Passes, granted}
use Rattle.line_cells.proofs.OneNode.{clash_at, passed_goes, placed_at, knows_whole, hand_none}
use Rattle.line_cells.proofs.Nodes.{others_end, others_clear, others_hand, freed_so}
use Rattle.qolb_model.proofs.Histories.{is_closed-append}
use Rattle.line_cells.proofs.Histories.{marked_at, continues}
use Rattle.line_cells.proofs.Keeping.{rule_step, mine_ok, mine_low, blank, cell_shown}
use Rattle.line_cells.proofs.Slots.{MayGive, MayKeep, LaysOne, AreSpare, elem_within}
use Rattle.line_cells.proofs.Taking.{at_turn, line_kept}
use Rattle.line_cells.proofs.Clearing.{not_after, no_line_after, goes_after, clear_with, more_clear, still_unclear, fine_clear}
use Rattle.line_cells.proofs.Ending.{not_holding, own_not_gone, passed_gone, fine_end, fine_home}
use Rattle.line_cells.proofs.Passed.{few_passed, others_passed}
use Rattle.line_cells.proofs.Turning.{goes_step}
use Rattle.qolb_model.specs.Leases.{turns_left, is_last_turn}
use Rattle.qolb_model.specs.declared.config.LineConfig.{LineConfig}
use Rattle.qolb_model.specs.PortStates.{state_after}
use Rattle.qolb_model.proofs.Clearing.{clears_ended}

some_list : (l : List ℕ) (q : ℕ) → l ++ q ∷ [] ≢ []
some_list [] q e = cc
some_list (p ∷ ps) q e = cc

-- The cells of a lock with `ended` ended requests, of which the next one is changed in this way to grant it. If no node
-- withdrew there, its old word is read as 0, and the line goes home. Otherwise the word names the node that withdrew,
-- and the releasing node still has the line.
abbrev pub GrantsNext : ℕ → Cells → (ℕ → ℕ → ℕ) → (ℕ → ℕ → ℕ) → ℕ → Bool → (ℕ → ℕ) → Type 0
GrantsNext count cells seen withdrawn_by ended cleared change = (holder : ℕ) (marks says : ℕ → ℕ) → marks (ended + count) ≡ 0 → cells ended holder cleared marks says
    → (marks (ended + 1) ≡ 0 → (seen (ended + 1) (says (cell_of count (ended + 1))) ≡ 0) × cells (ended + 1) 0 false marks (put says (cell_of count (ended + 1)) (change (says (cell_of count (ended + 1))))))
    × (0 < marks (ended + 1) → marks (ended + 1) ≤ MAX_NODES → 0 < holder
    → (seen (ended + 1) (says (cell_of count (ended + 1))) ≢ 0) × (withdrawn_by (ended + 1) (says (cell_of count (ended + 1))) ≡ marks (ended + 1)) × cells (ended + 1) holder false marks (put says (cell_of count (ended + 1)) (change (says (cell_of count (ended + 1))))))

-- a line that has no lease had none before, and a line that is open was open before
none_before : (lease : Option ℕ) (xs ys : List End) → turns_left lease ys ≡ None → turns_left lease xs ≡ None
none_before None xs ys is = refl
none_before (Some turns) xs ys is = absurd (cc is)

or_before : (a b : Bool) → (a || b) ≡ false → a ≡ false
or_before false b is = refl
or_before true b is = is

-- a slot that was behind the line is therefore still behind it
behind_goes : (lease : Option ℕ) (ends : List End) (e : End) (z : Payload) → IsBehind (turns_left lease ends) (is_closed ends) z → IsBehind (turns_left lease (ends ++ e ∷ [])) (is_closed (ends ++ e ∷ [])) z
behind_goes lease ends e z b = record {
  turns = λ is. b.turns (none_before lease ends (ends ++ e ∷ []) is);
  is_open = λ is. b.is_open (or_before (is_closed ends) (is_closed (e ∷ [])) (sym (is_closed-append ends (e ∷ [])) ∙ is));
}

module _ (cells : Cells) (slot_layout : SlotLayout) (good : List ℕ → Type 0) (allows : List ℕ → List ℕ → Type 0) (key : TableKey) (goes : (a b : List ℕ) → good a → allows a b → good b) (v : ArrayGhost) (has_it : has_line v.own.point ≡ true) (y : Payload) (carries : IsNextPayload allows v y) where
  abbrev Rule : ArrayState → Type 0
  Rule = ArrayRule cells slot_layout good allows key

  abbrev e : End
  e = next_end v y

  abbrev walk_past : History → History
  walk_past x = record x { ends = x.ends ++ e ∷ []; cleared = false; releaser_of = put x.releaser_of (length (x.ends ++ e ∷ [])) v.view.node }

  abbrev walk_entry : History → ArrayGhost
  walk_entry x = record v { view = record v.view { state = state_after y.closed; order = x.order; ends = x.ends ++ e ∷ []; clear = x.clear }; own = record v.own { point = Passing; passed = v.own.passed ++ length (x.ends ++ e ∷ []) ∷ [] }; steps = v.steps + 1 }

  abbrev home_past : History → History
  home_past x = record x { ends = x.ends ++ e ∷ []; clear = clear_with (own v.view) v.own.passed x.clear; holder = 0; cleared = false }

  abbrev home_entry : History → ArrayGhost
  home_entry x = record v { view = record v.view { state = state_after y.closed; order = x.order; ends = x.ends ++ e ∷ []; clear = clear_with (own v.view) v.own.passed x.clear }; own = record v.own { point = after_walk v.own.passed }; steps = v.steps + 1 }

  keeps_it : is_unfinished v.own.point ≡ true
  keeps_it = line_kept v.own.point has_it

  not_idle : v.own.point ≢ Idle
  not_idle i = clash_at has_line Idle has_it i refl

  not_rolled : v.own.point ≢ Rolled
  not_rolled i = clash_at has_line Rolled has_it i refl

  module _ (x : History) (f : HistoryInv good allows key x) (ok : NodeInv key x v.view.node v) where
    longer : length (x.ends ++ e ∷ []) ≡ length x.ends + 1
    longer = length-append x.ends (e ∷ [])

    ends : v.view.ends ≡ x.ends
    ends = (ok.holder.holds has_it).0

    holder : x.holder ≡ v.view.node
    holder = (ok.holder.holds has_it).1

    was_cleared : x.cleared ≡ is_cleared v.own.point
    was_cleared = (ok.holder.holds has_it).2

    walks : Walks (length x.ends) x.marks v
    walks = at_turn key x v.view.node v ok has_it

    unmarked : x.marks v.own.place ≡ 0
    unmarked = ok.marks.unmarked keeps_it

    unclear : Lacks x.clear (own v.view)
    unclear = ok.marks.unclear keeps_it

    placed : At x.order v.own.place (own v.view)
    placed = placed_at key x v.view.node v ok (ok.last_request.asked not_idle)

    below : v.own.place < length (x.ends ++ e ∷ [])
    below = ⊎_elim (λ z. let a = z.0 in let l = longer in omega arith) (λ z. let a = z.0 in let l = longer in omega arith) walks

    -- the request at its turn
    turn : (t : Request) × At x.order (length x.ends) t × ((t.node ≡ v.view.node) ⊎ (0 < x.marks (length x.ends)))
    turn = ⊎_elim (λ z. (own v.view, subst (λ q. At x.order q (own v.view)) z.0 placed, inl refl)) (λ z. let k = f.marked (length x.ends) z.1 in (k.0, k.1, inr z.1)) walks

    -- the end is Gone exactly if that request is marked
    gone : is_gone e ≡ true → 0 < x.marks (length x.ends)
    gone g = ⊎_elim (λ z. absurd (never g (own_not_gone v.own.passed (is_closed v.view.ends) y z.1))) (λ z. z.1) walks

    marked : 0 < x.marks (length x.ends) → is_gone e ≡ true
    marked h = ⊎_elim (λ z. let w : x.marks (length x.ends) ≡ 0 = ap x.marks (sym z.0) ∙ unmarked in absurd (omega arith)) (λ z. passed_gone v.own.passed (is_closed v.view.ends) y z.2) walks

    allowed : AreAllowed allows (bytes_after key.config.opening.bytes x.ends) (e ∷ [])
    allowed = subst (λ b. AreAllowed allows b (e ∷ [])) (λ j. bytes_after (ok.who.config j).opening.bytes (ends j)) carries.allowed

    bytes : y.bytes.bytes ≡ bytes_after key.config.opening.bytes (x.ends ++ e ∷ [])
    bytes = sym carries.bytes ∙ (λ j. bytes_after (ok.who.config j).opening.bytes (ends j ++ e ∷ []))

    left : y.turns_left ≡ turns_left key.config.lease (x.ends ++ e ∷ [])
    left = sym carries.turns ∙ (λ j. turns_left (ok.who.config j).lease (ends j ++ e ∷ []))

    follows : MayEnd (is_closed x.ends) (is_last_turn key.config.lease x.ends) e
    follows = subst (λ (z : List End × LineConfig). MayEnd (is_closed z.0) (is_last_turn z.1.lease z.0) e) (λ j. (ends j, ok.who.config j)) carries.may_end

    shut : y.closed ≡ is_closed (x.ends ++ e ∷ [])
    shut = sym carries.closed ∙ (λ j. is_closed (ends j ++ e ∷ []))

    module _ (low : 0 < v.view.node) where
      ended_fine : (releaser_of : ℕ → ℕ) → HistoryInv good allows key (record x { ends = x.ends ++ e ∷ []; cleared = false; releaser_of = releaser_of })
      ended_fine releaser_of = fine_end good allows key goes x e releaser_of f (λ z. let h = holder in omega arith) (slice_get_within x.order (length x.ends) turn.0 turn.1)
          follows allowed gone marked

      ended_others : (releaser_of : ℕ → ℕ) → ((p : ℕ) → p ≤ length x.ends → releaser_of p ≡ x.releaser_of p) → (n : ℕ) (u : ArrayGhost) → n ≢ v.view.node → NodeInv key x n u → NodeInv key (record x { ends = x.ends ++ e ∷ []; cleared = false; releaser_of = releaser_of }) n u
      ended_others releaser_of passes n u ne k = others_end key x n u k v.view.node turn.0 e releaser_of turn.1 turn.2 marked ne holder passes

      -- the next request is withdrawn
      module _ (rolled : 0 < x.marks (length (x.ends ++ e ∷ []))) where
        passed_request : (r : Request) × At x.order (length (x.ends ++ e ∷ [])) r × (r.node ≡ x.marks (length (x.ends ++ e ∷ [])))
        passed_request = f.marked (length (x.ends ++ e ∷ [])) rolled

        new_passed : HasPassed (length (x.ends ++ e ∷ [])) x.clear x.marks (put x.releaser_of (length (x.ends ++ e ∷ [])) v.view.node) v.view.node (walk_entry x) (length (x.ends ++ e ∷ []))
        new_passed = record {
          in_release = refl;
          releaser_is = put_here x.releaser_of (length (x.ends ++ e ∷ [])) v.view.node;
          within = omega arith;
          marked = rolled;
          request = passed_request.0;
          at = passed_request.1;
          unclear = lacks_from x.clear passed_request.0 (λ h. let o = clears_ended f.cleared passed_request.0 h in
              let s = same_place x.order f.legal.numbered o.0 (length (x.ends ++ e ∷ [])) passed_request.0 o.2 passed_request.1 in let b = o.1 in let l = longer in omega arith);
        }

        walk_node : NodeInv key (walk_past x) v.view.node (walk_entry x)
        walk_node = record {
          who = record { node = refl; label = ok.who.label; config = ok.who.config };
          knows = knows_whole x.order (x.ends ++ e ∷ []) x.clear v.view.node (walk_entry x).view refl refl refl ok.knows.counts (freed_so key x v.view.node v ok);
          last_request = record {
            asked = λ _. ok.last_request.asked not_idle;
            placed = λ _. placed;
            last_open = λ p r at mine h. ok.last_request.last_open p r at mine (let l = longer in omega arith);
            idle = λ i. cc;
            queued = λ i. cc;
            holds_open = λ i. cc;
            freeing = λ i. cc;
            waits = λ _ h. absurd (let b = below in omega arith);
          };
          holder = record {
            holds = λ _. (refl, holder, refl);
            lacks = λ i. cc;
            is_holder = λ i. absurd (not_holding y.closed i);
          };
          passes = record {
            walking = λ _ _. inr (below, rolled, some_list v.own.passed (length (x.ends ++ e ∷ [])));
            freeing = λ i. cc;
            passed = λ i p at. ⊎_elim
                (λ z. let h = ok.passes.passed i p z.1 in passed_goes v.view.node p v (walk_entry x) (length x.ends) (length (x.ends ++ e ∷ [])) x.clear x.clear x.marks x.marks x.releaser_of (put x.releaser_of (length (x.ends ++ e ∷ [])) v.view.node) h refl (put_else x.releaser_of (length (x.ends ++ e ∷ [])) v.view.node p (λ q. let w = h.within in let l = longer in omega arith)) (let l = longer in omega arith) h.marked ok.knows.orders h.unclear)
                (λ z. subst (HasPassed (length (x.ends ++ e ∷ [])) x.clear x.marks (put x.releaser_of (length (x.ends ++ e ∷ [])) v.view.node) v.view.node (walk_entry x)) (sym z.1) new_passed)
                (push_cases v.own.passed (length (x.ends ++ e ∷ [])) i p at);
            once = λ i j p a b. ⊎_elim
                (λ z. ⊎_elim (λ w. ok.passes.once i j p z.1 w.1) (λ w. absurd (old i p z.1 w.1)) (push_cases v.own.passed (length (x.ends ++ e ∷ [])) j p b))
                (λ z. ⊎_elim (λ w. absurd (old j p w.1 z.1)) (λ w. z.0 ∙ sym w.0) (push_cases v.own.passed (length (x.ends ++ e ∷ [])) j p b))
                (push_cases v.own.passed (length (x.ends ++ e ∷ [])) i p a);
          };
          marks = record {
            unmarked = λ _. unmarked;
            unclear = λ _. unclear;
            rolled = λ i. cc;
            known = ok.marks.known;
            last = λ p r at mine h lacks. absurd (not_rolled (ok.marks.last p r at mine h lacks).0);
            all = ok.marks.all;
          };
          flag = record {
            rolled = λ i. cc;
            not_rolled = λ _. ok.flag.not_rolled not_rolled;
          };
          joins = ok.joins;
        }
          where
            old : (i p : ℕ) → At v.own.passed i p → p ≡ length (x.ends ++ e ∷ []) → ⊥
            old i p at q = let h = (ok.passes.passed i p at).within in let l = longer in omega arith

        walk_others : (n : ℕ) (u : ArrayGhost) → n ≢ v.view.node → NodeInv key x n u → NodeInv key (walk_past x) n u
        walk_others n u ne k = ended_others (put x.releaser_of (length (x.ends ++ e ∷ [])) v.view.node) (λ p le. put_else x.releaser_of (length (x.ends ++ e ∷ [])) v.view.node p (λ q. let l = longer in omega arith)) n u ne k

        walk_fine : HistoryInv good allows key (walk_past x)
        walk_fine = ended_fine (put x.releaser_of (length (x.ends ++ e ∷ [])) v.view.node)

        learns_walk : Continues allows v.view (walk_entry x).view
        learns_walk = continues good allows key x (walk_past x) walk_fine v.view.node v.view.node v (walk_entry x) ok walk_node refl ok.knows.orders (prefix_more v.view.ends x.ends (e ∷ []) ok.knows.endings) ok.knows.clears (λ q h. h) (λ q h. h) (λ q h. h)

      -- the next request is not withdrawn
      module _ (free : x.marks (length (x.ends ++ e ∷ [])) ≡ 0) where
        more : (r : Request) → Has x.clear r → Has (clear_with (own v.view) v.own.passed x.clear) r
        more r h = more_clear (own v.view) v.own.passed x.clear r h

        own_clear : (l : List ℕ) → after_walk l ≡ Idle → Has (clear_with (own v.view) l x.clear) (own v.view)
        own_clear [] i = has_last x.clear (own v.view)
        own_clear (p ∷ l) i = absurd (cc i)

        own_kept : (l : List ℕ) → is_unfinished (after_walk l) ≡ true → Lacks (clear_with (own v.view) l x.clear) (own v.view)
        own_kept [] i = absurd (cc i)
        own_kept (p ∷ l) i = unclear

        home_node : NodeInv key (home_past x) v.view.node (home_entry x)
        home_node = record {
          who = record { node = refl; label = ok.who.label; config = ok.who.config };
          knows = knows_whole x.order (x.ends ++ e ∷ []) (clear_with (own v.view) v.own.passed x.clear) v.view.node (home_entry x).view refl refl refl ok.knows.counts (λ r h. more r (freed_so key x v.view.node v ok r h));
          last_request = record {
            asked = λ _. ok.last_request.asked not_idle;
            placed = λ _. placed;
            last_open = λ p r at mine h. ok.last_request.last_open p r at mine (let l = longer in omega arith);
            idle = λ i _. (below, own_clear v.own.passed i);
            queued = λ i. absurd (not_after v.own.passed Queued (λ z. cc) (λ z. cc) i);
            holds_open = λ i. absurd (not_after v.own.passed Holding (λ z. cc) (λ z. cc) i);
            freeing = λ _. below;
            waits = λ _ h. absurd (let b = below in omega arith);
          };
          holder = hand_none (x.ends ++ e ∷ []) 0 false v.view.node (home_entry x) (no_line_after v.own.passed) (λ z. omega arith) (not_holding y.closed);
          passes = record {
            walking = λ _ l. absurd (never l (no_line_after v.own.passed));
            freeing = λ _ i p at. let h = (ok.passes.passed i p at).within in let l = longer in omega arith;
            passed = λ i p at. let h = ok.passes.passed i p at in passed_goes v.view.node p v (home_entry x) (length x.ends) (length (x.ends ++ e ∷ [])) x.clear (clear_with (own v.view) v.own.passed x.clear) x.marks x.marks x.releaser_of x.releaser_of h (goes_after v.own.passed i p at) refl (let l = longer in omega arith) h.marked ok.knows.orders (still_unclear (own v.view) v.own.passed x.clear h.request i p at h.unclear);
            once = ok.passes.once;
          };
          marks = record {
            unmarked = λ _. unmarked;
            unclear = λ k. own_kept v.own.passed k;
            rolled = λ i. absurd (not_after v.own.passed Rolled (λ z. cc) (λ z. cc) i);
            known = ok.marks.known;
            last = λ p r at mine h lacks. absurd (not_rolled (ok.marks.last p r at mine h (lacks_from x.clear r (λ was. never (more r was) lacks))).0);
            all = ok.marks.all;
          };
          flag = record {
            rolled = λ i. absurd (not_after v.own.passed Rolled (λ z. cc) (λ z. cc) i);
            not_rolled = λ _. ok.flag.not_rolled not_rolled;
          };
          joins = ok.joins;
        }

        home_others : (n : ℕ) (u : ArrayGhost) → 0 < n → n ≢ v.view.node → NodeInv key x n u → NodeInv key (home_past x) n u
        home_others n u above ne k = others_hand key (record x { ends = x.ends ++ e ∷ []; cleared = false; clear = clear_with (own v.view) v.own.passed x.clear }) n u (go v.own.passed) 0 false (λ q. ne (sym q ∙ holder)) (λ q. absurd (some_node q))
          where
            one : NodeInv key (record x { ends = x.ends ++ e ∷ []; cleared = false }) n u
            one = ended_others x.releaser_of (λ p le. refl) n u ne k

            -- each node has a number above 0
            some_node : 0 ≡ n → ⊥
            some_node q = omega arith

            go : (l : List ℕ) → NodeInv key (record x { ends = x.ends ++ e ∷ []; cleared = false; clear = clear_with (own v.view) l x.clear }) n u
            go [] = others_clear key (record x { ends = x.ends ++ e ∷ []; cleared = false }) n u one (own v.view) v.own.place (λ q. ne (sym q)) placed unmarked (ended_fine x.releaser_of).legal
            go (p ∷ l) = one

        home_fine : HistoryInv good allows key (home_past x)
        home_fine = fine_home good allows key (record x { ends = x.ends ++ e ∷ []; cleared = false; clear = clear_with (own v.view) v.own.passed x.clear }) (go v.own.passed) free settled
          where
            one : HistoryInv good allows key (record x { ends = x.ends ++ e ∷ []; cleared = false })
            one = ended_fine x.releaser_of

            go : (l : List ℕ) → HistoryInv good allows key (record x { ends = x.ends ++ e ∷ []; cleared = false; clear = clear_with (own v.view) l x.clear })
            go [] = fine_clear good allows key (record x { ends = x.ends ++ e ∷ []; cleared = false }) v.own.place (own v.view) one below placed unclear
            go (p ∷ l) = one

            -- the request that has just ended is the node's own, or a withdrawn one
            settled : (p : ℕ) (r : Request) (end : End) → p + 1 ≡ length (x.ends ++ e ∷ []) → At x.order p r → At (x.ends ++ e ∷ []) p end → is_gone end ≡ false → Has (clear_with (own v.view) v.own.passed x.clear) r
            settled p r end last at en kind = let here : p ≡ length x.ends = (let l = longer in omega arith) in
                let same : end ≡ e = ⊎_elim (λ z. absurd (let a = z.0 in omega arith)) (λ z. z.1) (push_cases x.ends e p end en) in
                ⊎_elim (λ z. subst (Has (clear_with (own v.view) v.own.passed x.clear)) (at_same x.order (length x.ends) (own v.view) r (subst (λ q. At x.order q (own v.view)) z.0 placed) (subst (λ q. At x.order q r) here at)) (own_clear v.own.passed (ap after_walk z.1)))
                (λ z. absurd (never (ap is_gone same ∙ marked z.1) kind)) walks

        learns_home : Continues allows v.view (home_entry x).view
        learns_home = continues good allows key x (home_past x) home_fine v.view.node v.view.node v (home_entry x) ok home_node refl ok.knows.orders (prefix_more v.view.ends x.ends (e ∷ []) ok.knows.endings) (wider v.own.passed) (λ q h. h) (λ q h. h) (λ q h. h)
          where
            wider : (l : List ℕ) → IsPrefix v.view.clear (clear_with (own v.view) l x.clear)
            wider [] = prefix_more v.view.clear x.clear (own v.view ∷ []) ok.knows.clears
            wider (p ∷ l) = ok.knows.clears

        goes_home : IsHandedOver v (home_entry x)
        goes_home = record {
          point = refl;
          passed = refl;
          unmarked = λ r at. lacks_from v.view.marked r (λ h. let m = marked_at good allows key x f v.view.node v ok (length (x.ends ++ e ∷ [])) r at h in omega arith);
          clear = λ empty. own_clear v.own.passed (ap after_walk empty);
        }

  own_turn_of : (x : History) (ok : NodeInv key x v.view.node v) → v.own.passed ≡ [] → At x.order (length v.view.ends) (own v.view)
  own_turn_of x ok empty = ⊎_elim (λ z. subst (λ q. At x.order q (own v.view)) (z.0 ∙ ap length (sym (ok.holder.holds has_it).0)) (placed_at key x v.view.node v ok (ok.last_request.asked not_idle)))
      (λ z. absurd (z.2 empty)) (at_turn key x v.view.node v ok has_it)

  -- the word i is that of the next cell, and becomes z
  module _ (may_give : MayGive slot_layout) (may_keep : MayKeep slot_layout) (s : ArrayState) (r : Rule s) (me i z : ℕ) (at : get_elem? s.views me ≡ some (v ∷ [])) (word : i ≡ cell_at (cell_of slot_layout.cells (length v.view.ends + 1))) where
    ok : NodeInv key r.history v.view.node v
    ok = mine_ok cells slot_layout good allows key s r me v at

    above : 0 < v.view.node
    above = (mine_low cells slot_layout good allows key s r me v at).0

    same_ends : v.view.ends ≡ r.history.ends
    same_ends = ends r.history r.history_inv ok

    -- the place behind the turn
    abbrev next : ℕ
    next = length (r.history.ends ++ e ∷ [])

    next_is : length v.view.ends + 1 ≡ next
    next_is = ap (λ es. length es + 1) same_ends ∙ sym (longer r.history r.history_inv ok)

    small : cell_of slot_layout.cells (length v.view.ends + 1) < slot_layout.cells
    small = mod-lt (length v.view.ends + 1) slot_layout.some_cells

    -- what the cells say, as far as the node knows the turn
    said : cells (length v.view.ends) r.history.holder (is_cleared v.own.point) r.history.marks (cells_in s.words)
    said = subst (λ (z : ℕ × Bool). cells z.0 r.history.holder z.1 r.history.marks (cells_in s.words)) (λ j. (length (sym same_ends j), was_cleared r.history r.history_inv ok j)) r.shown.said

    far : r.history.marks (length v.view.ends + slot_layout.cells) ≡ 0
    far = ap (λ es. r.history.marks (length es + slot_layout.cells)) same_ends ∙ blank cells slot_layout good allows key s r

    -- the seat's slots, in which the line is stored for the successor
    module _ (slots : Slots) (laid : slot_layout.slots_at_release (length v.view.ends) y slots) where
      -- what was behind the line is still behind it after this end
      spare : AreSpare slot_layout (length v.view.ends) y s.homes
      spare k few inside =
          let z = r.shown.spare k few (λ some out. inside (subst (λ es. slot_layout.is_out (length es) k) (sym same_ends) out)) in (
            z.0,
            z.1,
            subst (λ (l : Option ℕ × Bool). IsBehind l.0 l.1 z.0) (λ j. (sym (left r.history r.history_inv ok) j, sym (shut r.history r.history_inv ok) j)) (behind_goes key.config.lease r.history.ends e z.0 z.2),
          )

      now_spare : (homes : Homes) (k : ℕ) → IsSpare y.turns_left y.closed homes k → IsSpare (turns_left key.config.lease (r.history.ends ++ e ∷ [])) (is_closed (r.history.ends ++ e ∷ [])) homes k
      now_spare homes k z = subst (λ (l : Option ℕ × Bool). IsSpare l.0 l.1 homes k) (λ j. (left r.history r.history_inv ok j, shut r.history r.history_inv ok j)) z

      pub giving : (act : Act Payload) × Valid s.homes slots act × (length (homes_after s.homes slots act) ≡ length s.homes) × (carried_after slots act ≡ [])
          × (get_elem? (homes_after s.homes slots act) (slot_layout.home_slot (length v.view.ends + 1)) ≡ some (some y)) × ((k : ℕ) → k < slot_layout.count → IsSpare y.turns_left y.closed (homes_after s.homes slots act) k)
      giving = may_give (length v.view.ends) s.homes slots y r.shown.deep laid spare

      pub keeping : (act : Act Payload) × Valid s.homes slots act × (length (homes_after s.homes slots act) ≡ length s.homes) × slot_layout.slots_at_grant (length v.view.ends + 1) y (carried_after slots act) × AreSpare slot_layout (length v.view.ends + 1) y (homes_after s.homes slots act)
      keeping = may_keep (length v.view.ends) s.homes slots y r.shown.deep laid spare

      abbrev pub given : Homes
      given = homes_after s.homes slots giving.0

      abbrev pub kept : Homes
      kept = homes_after s.homes slots keeping.0

      pub homes_rule : r.history.marks next ≡ 0 → cells (length v.view.ends + 1) 0 false r.history.marks (put (cells_in s.words) (cell_of slot_layout.cells (length v.view.ends + 1)) z)
          → Rule record { words = set s.words i z; homes = given; views = set s.views me (home_entry r.history ∷ []) }
      homes_rule free says = rule_step cells slot_layout good allows key s r me v (home_entry r.history) (home_past r.history) (set s.words i z) given at refl
          (home_fine r.history r.history_inv ok above free)
          (cell_shown cells slot_layout good allows key r.history s.words s.homes given i (cell_of slot_layout.cells (length v.view.ends + 1)) z word small r.shown giving.2
          0 false (r.history.ends ++ e ∷ []) (clear_with (own v.view) v.own.passed r.history.clear) r.history.marks r.history.releaser_of
          (subst (λ q. cells q 0 false r.history.marks (put (cells_in s.words) (cell_of slot_layout.cells (length v.view.ends + 1)) z)) next_is says)
          (λ _. (y, subst (λ q. get_elem? given (slot_layout.home_slot q) ≡ some (some y)) next_is giving.4, bytes r.history r.history_inv ok, shut r.history r.history_inv ok, left r.history r.history_inv ok))
          (λ k few _. now_spare given k (giving.5 k few)))
          (home_node r.history r.history_inv ok above free)
          (λ n a b ne. home_others r.history r.history_inv ok above free n (r.who n) a ne (r.each n a b))

      pub walks_rule : 0 < r.history.marks next → cells (length v.view.ends + 1) r.history.holder false r.history.marks (put (cells_in s.words) (cell_of slot_layout.cells (length v.view.ends + 1)) z)
          → Rule record { words = set s.words i z; homes = kept; views = set s.views me (walk_entry r.history ∷ []) }
      walks_rule rolled says = rule_step cells slot_layout good allows key s r me v (walk_entry r.history) (walk_past r.history) (set s.words i z) kept at refl
          (walk_fine r.history r.history_inv ok above rolled)
          (cell_shown cells slot_layout good allows key r.history s.words s.homes kept i (cell_of slot_layout.cells (length v.view.ends + 1)) z word small r.shown keeping.2
          r.history.holder false (r.history.ends ++ e ∷ []) r.history.clear r.history.marks (put r.history.releaser_of next v.view.node)
          (subst (λ q. cells q r.history.holder false r.history.marks (put (cells_in s.words) (cell_of slot_layout.cells (length v.view.ends + 1)) z)) next_is says)
          (λ nobody. absurd (held nobody))
          (λ k few inside. now_spare kept k (keeping.4 k few (λ out. inside held (subst (λ q. slot_layout.is_out q k) next_is out)))))
          (walk_node r.history r.history_inv ok above rolled)
          (λ n a b ne. walk_others r.history r.history_inv ok above rolled n (r.who n) ne (r.each n a b))
        where
          held : r.history.holder ≡ 0 → ⊥
          held nobody = let h = holder r.history r.history_inv ok in let l = above in omega arith

      pub passes : (by_node : ℕ) → by_node ≡ r.history.marks next → (rolled : 0 < r.history.marks next) → cells (length v.view.ends + 1) r.history.holder false r.history.marks (put (cells_in s.words) (cell_of slot_layout.cells (length v.view.ends + 1)) z) → Passes v by_node (walk_entry r.history)
      passes by_node is rolled says = let k = passed_request r.history r.history_inv ok above rolled in record {
        point = refl;
        passed = refl;
        request = k.0;
        at = k.1;
        is_by = k.2 ∙ sym is;
        high = subst (λ (t : LineConfig). k.0.node ≤ t.nodes) (sym ok.who.config) (r.history_inv.nodes next k.0 k.1).1;
        others = others_passed cells slot_layout good allows key (record { words = set s.words i z; homes = kept; views = set s.views me (walk_entry r.history ∷ []) }) (walks_rule rolled says) me (walk_entry r.history) (set_here s.views me (walk_entry r.history ∷ []) (elem_within s.views me (v ∷ []) at)) refl;
        few = subst (λ (t : LineConfig). length (v.own.passed ++ next ∷ []) + 1 ≤ t.nodes) (sym ok.who.config)
            (few_passed cells slot_layout good allows key (record { words = set s.words i z; homes = kept; views = set s.views me (walk_entry r.history ∷ []) }) (walks_rule rolled says) me (walk_entry r.history) (set_here s.views me (walk_entry r.history ∷ []) (elem_within s.views me (v ∷ []) at)) refl);
        nodes = subst (λ (t : LineConfig). t.nodes ≤ MAX_NODES) (sym ok.who.config) r.may_open.nodes.few;
      }

    -- a node that withdrew is one of the line's
    high : 0 < r.history.marks next → r.history.marks next ≤ MAX_NODES
    high rolled = let k = r.history_inv.marked next rolled in let h = (r.history_inv.nodes next k.0 k.1).1 in let same = k.2 in let few = r.may_open.nodes.few in omega arith

    ended_home : Ended v (home_entry r.history) y
    ended_home = record { known = (ended_fine r.history r.history_inv ok above r.history.releaser_of).legal.ended; ends = ap (λ l. l ++ e ∷ []) (sym same_ends); state = refl; count = refl; own_turn = own_turn_of r.history ok }

    ended_walk : Ended v (walk_entry r.history) y
    ended_walk = record { known = (ended_fine r.history r.history_inv ok above r.history.releaser_of).legal.ended; ends = ap (λ l. l ++ e ∷ []) (sym same_ends); state = refl; count = refl; own_turn = own_turn_of r.history ok }

  module _ (seen withdrawn_by : ℕ → ℕ → ℕ) (change : ℕ → ℕ) (may_give : MayGive slot_layout) (may_keep : MayKeep slot_layout) (lays_one : LaysOne slot_layout) (grants : GrantsNext slot_layout.cells cells seen withdrawn_by (length v.view.ends) (is_cleared v.own.point) change) where
    pub grants_next : (me slots i : ℕ) (m : SeatContents) (carried : Slots) → m ≡ (v ∷ [], carried) → slot_layout.slots_at_release (length v.view.ends) y carried → i ≡ cell_at (cell_of slot_layout.cells (length v.view.ends + 1)) → Allows Rule slots me m i change (granted allows slot_layout seen withdrawn_by (step slots i 0 0 none) m)
    grants_next me slots i m carried is laid word = subst (λ (z : SeatContents). Allows Rule slots me z i change (granted allows slot_layout seen withdrawn_by (step slots i 0 0 none) z)) (sym is) (λ s r deep at small.
        let new : ℕ = change (slice_index s.words i) in
        let found : slice_index s.words i ≡ cells_in s.words (cell_of slot_layout.cells (length v.view.ends + 1)) = ap (slice_index s.words) word in
        let step_of = next_is may_give may_keep s r me i new at word in
        let all = grants r.history.holder r.history.marks (cells_in s.words) (far may_give may_keep s r me i new at word) (said may_give may_keep s r me i new at word) in
        let mine = ok may_give may_keep s r me i new at word in
        let up = above may_give may_keep s r me i new at word in
        dite (ℕ_discrete (r.history.marks (length (r.history.ends ++ e ∷ []))) 0)
        (λ free. let both = all.0 (ap r.history.marks step_of ∙ free) in let give = giving may_give may_keep s r me i new at word carried laid in (
          home_entry r.history ∷ [],
          give.0,
          give.1,
          homes_rule may_give may_keep s r me i new at word carried laid free (subst (λ k. cells (length v.view.ends + 1) 0 false r.history.marks (put (cells_in s.words) (cell_of slot_layout.cells (length v.view.ends + 1)) (change k))) (sym found) both.1),
          (
            goes_step allows (v ∷ [], carried) v (home_entry r.history) (carried_after carried give.0) refl (learns_home r.history r.history_inv mine up free) refl,
            (λ z c. subst (λ (u : Payload). Ended v (home_entry r.history) u) (lays_one (length v.view.ends) y z carried laid c) (ended_home may_give may_keep s r me i new at word)),
            (λ _. (give.3, goes_home r.history r.history_inv mine up free)),
            (λ ne. absurd (ne (ap (seen (length v.view.ends + 1)) found ∙ both.0))),
          ),
        ))
        (λ ne. let rolled : 0 < r.history.marks (length (r.history.ends ++ e ∷ [])) = omega arith in
        let marked : r.history.marks (length v.view.ends + 1) ≡ r.history.marks (length (r.history.ends ++ e ∷ [])) = ap r.history.marks step_of in
        let held = (holder r.history r.history_inv mine) in let some_node : 0 < r.history.holder = omega arith in
        let told = all.1 (subst (λ k. 0 < k) (sym marked) rolled) (subst (λ k. k ≤ MAX_NODES) (sym marked) (high may_give may_keep s r me i new at word rolled)) some_node in
        let says = subst (λ k. cells (length v.view.ends + 1) r.history.holder false r.history.marks (put (cells_in s.words) (cell_of slot_layout.cells (length v.view.ends + 1)) (change k))) (sym found) told.2 in
        let keep = keeping may_give may_keep s r me i new at word carried laid in (
          walk_entry r.history ∷ [],
          keep.0,
          keep.1,
          walks_rule may_give may_keep s r me i new at word carried laid rolled says,
          (
            goes_step allows (v ∷ [], carried) v (walk_entry r.history) (carried_after carried keep.0) refl (learns_walk r.history r.history_inv mine up rolled) refl,
            (λ z c. subst (λ (u : Payload). Ended v (walk_entry r.history) u) (lays_one (length v.view.ends) y z carried laid c) (ended_walk may_give may_keep s r me i new at word)),
            (λ z. absurd (told.0 (ap (seen (length v.view.ends + 1)) (sym found) ∙ z))),
            (λ _. (
              (λ z c. subst (λ (u : Payload). slot_layout.slots_at_grant (length v.view.ends + 1) u (carried_after carried keep.0)) (lays_one (length v.view.ends) y z carried laid c) keep.3),
              passes may_give may_keep s r me i new at word carried laid (withdrawn_by (length v.view.ends + 1) (slice_index s.words i)) (ap (withdrawn_by (length v.view.ends + 1)) found ∙ told.1 ∙ marked) rolled says,
            )),
          ),
        )))
