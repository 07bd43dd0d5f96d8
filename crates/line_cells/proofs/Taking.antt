-- Proof about the atomic step with which a waiting node takes the line. Before this step, no node has the line, and the
-- turn of the waiting node has come.
use Rattle.std.proofs.Common.{◌≡◌, ◌≢◌, ℕ, ◌+◌, ◌<◌, ◌≤◌, List, [], ◌∷◌, length, set, slice_index, Bool, true, false, Option, sym, refl, ap, ◌∙◌, subst, inl, ⊎_elim, arith, mod-lt}
use mathlib.Core.Logic.{dite}
use mathlib.Core.Option.{some}
use native.Mathlib.Decide.{ℕ_discrete}
use lib.ListN.{get_elem?}
use Rattle.std.proofs.lemmas.Option.{slice_get_within}
use Rattle.atomic_table.specs.Table.{Act, Valid, homes_after, carried_after}
use Rattle.atomic_table.proofs.Lists.{one_turn}
use Rattle.qolb_model.specs.declared.config.LineConfig.{LineConfig}
use Rattle.qolb_model.specs.Leases.{turns_left}
use Rattle.qolb_model.specs.declared.answer.PortState.TheVariants as port_state
use Rattle.qolb_model.specs.declared.request.Request.{Request}
use Rattle.qolb_model.specs.Ends.{is_closed, bytes_after}
use Rattle.qolb_model.specs.Views.{own}
use Rattle.qolb_model.specs.Sound.{Continues}
use Rattle.qolb_model.proofs.Agreed.{length-bytes_after}
use Rattle.qolb_model.proofs.Lists.{at_same}
use Rattle.qolb_model.proofs.Updates.{put}
use Rattle.line_cells.specs.declared.local.Point.{Point}
use Rattle.line_cells.specs.declared.local.Point.TheVariants.{Idle, Queued, Holding, Passing, Cleared, Freeing, Rolled}
use Rattle.line_generic.specs.declared.table.TableKey.{TableKey}
use Rattle.line_generic.specs.declared.table.Payload.{Payload}
use Rattle.line_cells.specs.Layout.{cell_at, cells_in, cell_of}
use Rattle.line_cells.specs.SlotLayout.{SlotLayout, Homes, IsSpare}
use Rattle.line_cells.specs.Array.{ArrayGhost, ArrayState, At, Cells, History, Walks, NodeInv, HistoryInv, Represents, ArrayRule, has_line, is_releasing, is_unfinished}
use Rattle.line_cells.specs.BetweenCalls.{holds_open}
use Rattle.line_cells.specs.Steps.{IsAtTurn}
use Rattle.line_cells.proofs.OneNode.{clash_at, placed_at, knows_whole}
use Rattle.line_cells.proofs.Nodes.{none_passed, others_hand, passes_none, freed_so}
use Rattle.line_cells.proofs.Histories.{not_withdrawn, continues}
use Rattle.line_cells.proofs.Slots.{MayTake, AreSpare}
use Rattle.line_cells.proofs.Keeping.{rule_step, mine_ok, mine_low, window, cell_shown}
use Rattle.qolb_model.proofs.Leases.{open_has_turns}

-- The cell of a request at its turn, if no node has the line, does not read as waiting. After the node n takes the line
-- by a step that changes the cell in this way, the cells keep their invariant.
abbrev pub Takes : ℕ → Cells → (ℕ → ℕ → Type 0) → ℕ → ℕ → (ℕ → ℕ) → Type 0
Takes count cells waits place n change = (cleared : Bool) (marks says : ℕ → ℕ) → 0 < n → marks place ≡ 0 → cells place 0 cleared marks says
    → (waits place (says (cell_of count place)) → ⊥) × cells place n false marks (put says (cell_of count place) (change (says (cell_of count place))))

-- the cell of a request that is behind the turn and not withdrawn does not show a grant
abbrev pub StaysBehind : ℕ → Cells → (ℕ → ℕ → Type 0) → ℕ → Type 0
StaysBehind count cells shows_turn place = (ended holder : ℕ) (cleared : Bool) (marks says : ℕ → ℕ) → ended < place → place < ended + count → marks place ≡ 0 → cells ended holder cleared marks says
    → shows_turn place (says (cell_of count place)) → ⊥

-- the cells behind one are others
pub cells_apart : (count m k : ℕ) → 0 < k → k < count → cell_of count (m + k) ≢ cell_of count m
cells_apart count m k a b e = let f = one_turn m (m + k) count (omega arith) (omega arith) (sym e) in omega arith

-- a node that has the line is at the turn of its own request, or of a withdrawn one that it passed
pub at_turn : (key : TableKey) (x : History) (n : ℕ) (v : ArrayGhost) → NodeInv key x n v → has_line v.own.point ≡ true → Walks (length x.ends) x.marks v
at_turn key x n v ok l = go v.own.point refl
  where
    go : (q : Point) → v.own.point ≡ q → Walks (length x.ends) x.marks v
    go Idle e = absurd (clash_at has_line Idle l e refl)
    go Queued e = absurd (clash_at has_line Queued l e refl)
    go Holding e = inl (ok.last_request.holds_open e, none_passed ok.passes (ap is_releasing e))
    go Passing e = ok.passes.walking (ap is_releasing e) l
    go Cleared e = ok.passes.walking (ap is_releasing e) l
    go Freeing e = absurd (clash_at has_line Freeing l e refl)
    go Rolled e = absurd (clash_at has_line Rolled l e refl)

-- the node keeps its request
pub line_kept : (q : Point) → has_line q ≡ true → is_unfinished q ≡ true
line_kept Idle e = absurd (cc e)
line_kept Queued e = refl
line_kept Holding e = refl
line_kept Passing e = refl
line_kept Cleared e = refl
line_kept Freeing e = refl
line_kept Rolled e = absurd (cc e)

module _ (cells : Cells) (slot_layout : SlotLayout) (good : List ℕ → Type 0) (allows : List ℕ → List ℕ → Type 0) (key : TableKey) (v : ArrayGhost) (queued : v.own.point ≡ Queued) where
  abbrev Rule : ArrayState → Type 0
  Rule = ArrayRule cells slot_layout good allows key

  abbrev pub take_entry : History → ArrayGhost
  take_entry x = record v { view = record v.view { state = port_state.Holding; order = x.order; ends = x.ends; clear = x.clear }; own = record v.own { point = Holding }; steps = v.steps + 1 }

  abbrev pub take_past : History → History
  take_past x = record x { holder = v.view.node; cleared = false }

  pub asked_at : (x : History) → NodeInv key x v.view.node v → At x.order v.own.place (own v.view)
  asked_at x ok = placed_at key x v.view.node v ok (ok.last_request.asked (λ e. let q = queued in cc))

  pub nothing_passed : (x : History) → NodeInv key x v.view.node v → v.own.passed ≡ []
  nothing_passed x ok = none_passed ok.passes (ap is_releasing queued)

  take_node : (x : History) → v.own.place ≡ length x.ends → NodeInv key x v.view.node v → NodeInv key (take_past x) v.view.node (take_entry x)
  take_node x here ok = record {
    who = record { node = refl; label = ok.who.label; config = ok.who.config };
    knows = knows_whole x.order x.ends x.clear v.view.node (take_entry x).view refl refl refl ok.knows.counts (freed_so key x v.view.node v ok);
    last_request = record {
      asked = λ _. ok.last_request.asked (λ e. let q = queued in cc);
      placed = λ _. asked_at x ok;
      last_open = ok.last_request.last_open;
      idle = λ e. cc;
      queued = λ e. cc;
      holds_open = λ _. here;
      freeing = λ e. cc;
      waits = λ _ _. refl;
    };
    holder = record {
      holds = λ _. (refl, refl, refl);
      lacks = λ e. cc;
      is_holder = λ _. (refl, here);
    };
    passes = passes_none ok.passes (ap is_releasing queued) (take_entry x) (length x.ends) x.clear x.marks x.releaser_of refl refl;
    marks = record {
      unmarked = λ _. ok.marks.unmarked (ap is_unfinished queued);
      unclear = λ _. ok.marks.unclear (ap is_unfinished queued);
      rolled = λ e. cc;
      known = ok.marks.known;
      last = λ p r at mine h lacks. let k = (ok.marks.last p r at mine h lacks).0 in let q = queued in absurd (cc);
      all = ok.marks.all;
    };
    flag = record {
      rolled = λ e. cc;
      not_rolled = λ _. ok.flag.not_rolled (λ e. let q = queued in cc);
    };
    joins = ok.joins;
  }

  -- no node has the line if the request at its turn waits
  pub at_home : (x : History) → HistoryInv good allows key x → ((n : ℕ) → 0 < n → n ≤ key.config.nodes → (u : ArrayGhost) × NodeInv key x n u) → NodeInv key x v.view.node v → v.own.place ≡ length x.ends → x.holder ≡ 0
  at_home x f each ok here = dite (ℕ_discrete x.holder 0) (λ e. e) (λ ne. let k = each x.holder (omega arith) f.within in absurd (go k.0 k.1 (has_line k.0.own.point) refl))
    where
      turn : At x.order (length x.ends) (own v.view)
      turn = subst (λ q. At x.order q (own v.view)) here (asked_at x ok)

      other : (u : ArrayGhost) → NodeInv key x x.holder u → has_line u.own.point ≡ true → u.own.place ≡ length x.ends → ⊥
      other u k l there = ok.holder.lacks (ap has_line queued) (sym k.who.node ∙ ap (λ (q : Request). q.node) (at_same x.order (length x.ends) (own u.view) (own v.view)
          (subst (λ q. At x.order q (own u.view)) there (placed_at key x x.holder u k (k.last_request.asked (λ i. clash_at has_line Idle l i refl)))) turn) ∙ ok.who.node)

      go : (u : ArrayGhost) → NodeInv key x x.holder u → (b : Bool) → has_line u.own.point ≡ b → ⊥
      go u k false e = k.holder.lacks e refl
      go u k true e = ⊎_elim (λ z. other u k e z.0) (λ z. let m : x.marks (length x.ends) ≡ 0 = ap x.marks (sym here) ∙ ok.marks.unmarked (ap is_unfinished queued) in let more = z.1 in omega arith) (at_turn key x x.holder u k e)

  -- the state s, whose seat `me` has the entry v alone, at the word i of its cell
  module _ (s : ArrayState) (r : Rule s) (me i : ℕ) (at : get_elem? s.views me ≡ some (v ∷ [])) (word : i ≡ cell_at (cell_of slot_layout.cells v.own.place)) where
    ok : NodeInv key r.history v.view.node v
    ok = mine_ok cells slot_layout good allows key s r me v at

    pub near : v.own.place < length r.history.ends + slot_layout.cells
    near = let few = r.shown.more in let high = slice_get_within r.history.order v.own.place (own v.view) (asked_at r.history ok) in let all = window cells slot_layout good allows key s r in omega arith

    -- a request that is not at its turn is behind it, not withdrawn, and no cell is used again within that distance
    pub behind : v.own.place ≢ length r.history.ends → (length r.history.ends < v.own.place) × (r.history.marks v.own.place ≡ 0)
    behind later = let l = ok.last_request.queued queued in (omega arith, ok.marks.unmarked (ap is_unfinished queued))

    -- what the request's cell says
    pub found_is : slice_index s.words i ≡ cells_in s.words (cell_of slot_layout.cells v.own.place)
    found_is = ap (slice_index s.words) word

    module _ (may_take : MayTake slot_layout) (here : v.own.place ≡ length r.history.ends) where
      pub holder : r.history.holder ≡ 0
      holder = at_home r.history r.history_inv (λ n a b. (r.who n, r.each n a b)) ok here

      pub home : (y : Payload) × (get_elem? s.homes (slot_layout.home_slot (length r.history.ends)) ≡ some (some y)) × (y.bytes.bytes ≡ bytes_after key.config.opening.bytes r.history.ends) × (y.closed ≡ is_closed r.history.ends) × (y.turns_left ≡ turns_left key.config.lease r.history.ends)
      home = r.shown.home holder

      take_fine : HistoryInv good allows key (take_past r.history)
      take_fine = record {
        legal = r.history_inv.legal;
        nodes = r.history_inv.nodes;
        kept = r.history_inv.kept;
        sound = r.history_inv.sound;
        within = (mine_low cells slot_layout good allows key s r me v at).1;
        cleared = r.history_inv.cleared;
        nobody = λ h. let l = (mine_low cells slot_layout good allows key s r me v at).0 in absurd (omega arith);
        settled = λ h. let l = (mine_low cells slot_layout good allows key s r me v at).0 in absurd (omega arith);
        marked = r.history_inv.marked;
        gone = r.history_inv.gone;
      }

      -- the act by which the line is taken
      pub act : (a : Act Payload) × Valid s.homes [] a × (length (homes_after s.homes [] a) ≡ length s.homes) × slot_layout.slots_at_grant (length r.history.ends) home.0 (carried_after [] a) × AreSpare slot_layout (length r.history.ends) home.0 (homes_after s.homes [] a)
      act = may_take (length r.history.ends) s.homes home.0 r.shown.deep home.1 (λ k few. subst (λ (z : Option ℕ × Bool). IsSpare z.0 z.1 s.homes k) (λ j. (sym home.4 j, sym home.3 j)) (r.shown.spare k few (λ some out. some holder)))

      abbrev pub after : Homes
      after = homes_after s.homes [] act.0

      pub brought : slot_layout.slots_at_grant v.own.place home.0 (carried_after [] act.0)
      brought = subst (λ q. slot_layout.slots_at_grant q home.0 (carried_after [] act.0)) (sym here) act.3

      pub low : 0 < v.view.node
      low = (mine_low cells slot_layout good allows key s r me v at).0

      take_shown : (z : ℕ) → cells (length r.history.ends) v.view.node false r.history.marks (put (cells_in s.words) (cell_of slot_layout.cells v.own.place) z) → Represents cells slot_layout good allows key (take_past r.history) (set s.words i z) after
      take_shown z said = cell_shown cells slot_layout good allows key r.history s.words s.homes after i (cell_of slot_layout.cells v.own.place) z word (mod-lt v.own.place slot_layout.some_cells) r.shown act.2
          v.view.node false r.history.ends r.history.clear r.history.marks r.history.releaser_of said (λ e. absurd (held e)) (λ k few out. subst (λ (z : Option ℕ × Bool). IsSpare z.0 z.1 after k) (λ j. (home.4 j, home.3 j)) (act.4 k few (out (λ e. held e))))
        where
          held : v.view.node ≡ 0 → ⊥
          held e = let l = low in omega arith

      -- the invariant after the grant is taken, and the cell is z
      pub takes_rule : (z : ℕ) → cells (length r.history.ends) v.view.node false r.history.marks (put (cells_in s.words) (cell_of slot_layout.cells v.own.place) z) → Rule record { words = set s.words i z; homes = after; views = set s.views me (take_entry r.history ∷ []) }
      takes_rule z said = rule_step cells slot_layout good allows key s r me v (take_entry r.history) (take_past r.history) (set s.words i z) after at refl take_fine (take_shown z said) (take_node r.history here ok)
          (λ n a b ne. others_hand key r.history n (r.who n) (r.each n a b) v.view.node false (λ e. let h = holder in omega arith) (λ e. ne (sym e)))

      pub shows_turn : (token_of : ℕ → ℕ) → IsAtTurn token_of (token_of v.own.place) (take_entry r.history) home.0
      shows_turn token_of = record {
        has = record { holds = λ _. held; refuses = λ _. held };
        state = refl;
        turn = subst (λ q. At r.history.order q (own v.view)) here (asked_at r.history ok);
        unmarked = not_withdrawn good allows key r.history r.history_inv v.view.node v ok (ap is_unfinished queued);
        clear = λ p q e before a b kind. r.history_inv.settled holder p q e before a b kind;
        bytes = home.2 ∙ ap (λ (t : LineConfig). bytes_after t.opening.bytes r.history.ends) (sym ok.who.config);
        closed = home.3;
        turns = home.4 ∙ ap (λ (t : LineConfig). turns_left t.lease r.history.ends) (sym ok.who.config);
        some_left = λ unclosed left. open_has_turns key.config.lease r.history.order r.history.ends r.may_open.lease r.history_inv.legal unclosed (sym home.4 ∙ left);
        line = ap length home.2 ∙ length-bytes_after key.config.opening.bytes r.history.ends r.line;
      }
        where
          held : holds_open token_of (token_of v.own.place) (length r.history.ends) (take_entry r.history).own
          held = (refl, nothing_passed r.history ok, ap token_of here)

      pub learns_take : Continues allows v.view (take_entry r.history).view
      learns_take = continues good allows key r.history (take_past r.history) take_fine v.view.node v.view.node v (take_entry r.history) ok (take_node r.history here ok) refl ok.knows.orders ok.knows.endings ok.knows.clears (λ q h. h) (λ q h. h) (λ q h. h)

      -- the cells of the lock have what they must have
      module _ (waits : ℕ → ℕ → Type 0) (change : ℕ → ℕ) (takes : Takes slot_layout.cells cells waits v.own.place v.view.node change) where
        taken : (waits v.own.place (cells_in s.words (cell_of slot_layout.cells v.own.place)) → ⊥) × cells v.own.place v.view.node false r.history.marks (put (cells_in s.words) (cell_of slot_layout.cells v.own.place) (change (cells_in s.words (cell_of slot_layout.cells v.own.place))))
        taken = takes r.history.cleared r.history.marks (cells_in s.words) low (ok.marks.unmarked (ap is_unfinished queued))
            (subst (λ (z : ℕ × ℕ). cells z.0 z.1 r.history.cleared r.history.marks (cells_in s.words)) (λ j. (sym here j, holder j)) r.shown.said)

        pub taken_not_waits : waits v.own.place (slice_index s.words i) → ⊥
        taken_not_waits w = taken.0 (subst (waits v.own.place) found_is w)

        pub taken_rule : Rule record { words = set s.words i (change (slice_index s.words i)); homes = after; views = set s.views me (take_entry r.history ∷ []) }
        taken_rule = takes_rule (change (slice_index s.words i))
            (subst (λ (z : ℕ × ℕ). cells z.0 v.view.node false r.history.marks (put (cells_in s.words) (cell_of slot_layout.cells v.own.place) (change z.1))) (λ j. (here j, sym found_is j)) taken.1)
