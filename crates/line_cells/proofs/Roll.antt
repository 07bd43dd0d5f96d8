-- Proof about the atomic step with which a waiting node writes a withdrawal into its cell. After this step, either the
-- node's turn has come, or the node's request is withdrawn.
use Rattle.std.proofs.Common.{◌≡◌, ◌≢◌, ℕ, ◌+◌, ◌<◌, ◌≤◌, List, [], ◌∷◌, ◌++◌, length, set, slice_index, Bool, if◌then◌else◌, sym, refl, ap, ◌∙◌, subst, ⊎_elim, arith, mod-lt}
use mathlib.Core.Logic.{dite}
use mathlib.Core.Option.{none, some}
use native.Mathlib.Decide.{ℕ_discrete}
use lib.ListN.{get_elem?}
use Rattle.std.proofs.lemmas.Option.{slice_get_within}
use Rattle.atomic_table.specs.Table.{step, keeps, carried_after, Allows}
use Rattle.qolb_model.specs.declared.answer.PortState.TheVariants as port_state
use Rattle.qolb_model.specs.Requests.{Has}
use Rattle.qolb_model.specs.Views.{own}
use Rattle.qolb_model.specs.Sound.{Continues}
use Rattle.qolb_model.proofs.Requests.{has_left, has_last, has_push}
use Rattle.qolb_model.specs.declared.config.TheConstants.{MAX_NODES}
use Rattle.qolb_model.proofs.Lists.{at_same}
use Rattle.qolb_model.proofs.Updates.{put, put_here, put_else}
use Rattle.line_cells.specs.declared.local.Point.TheVariants.{Queued, Rolled}
use Rattle.line_generic.specs.declared.table.TableKey.{TableKey}
use Rattle.line_cells.specs.Layout.{cell_at, cells_in, cell_of}
use Rattle.line_cells.specs.SlotLayout.{SlotLayout}
use Rattle.line_cells.specs.Array.{ArrayGhost, ArrayState, At, Cells, History, NodeInv, HistoryInv, ArrayRule, has_line, is_releasing, is_unfinished}
use Rattle.line_cells.specs.Steps.{SeatContents, IsRolled, rolled}
use Rattle.line_cells.proofs.OneNode.{knows_whole, hand_none}
use Rattle.line_cells.proofs.Nodes.{others_roll, passes_none, freed_so}
use Rattle.line_cells.proofs.Histories.{continues}
use Rattle.line_cells.proofs.Keeping.{rule_step, mine_ok, mine_low, few_open, cell_shown}
use Rattle.line_cells.proofs.Slots.{MayTake}
use Rattle.line_cells.proofs.Taking.{Takes, StaysBehind, take_entry, asked_at, near, behind, found_is, home, act, brought, shows_turn, learns_take, taken_not_waits, taken_rule}
use Rattle.line_cells.proofs.Turning.{goes_step}

-- The cells of a lock after the node n withdraws its request at this place, which is behind the turn, by a step that
-- changes the cell in this way.
abbrev pub Withdraws : ℕ → Cells → ℕ → ℕ → (ℕ → ℕ) → Type 0
Withdraws count cells place n change = (ended holder : ℕ) (cleared : Bool) (marks says : ℕ → ℕ) → 0 < n → n ≤ MAX_NODES → ended < place → place < ended + count → marks place ≡ 0 → cells ended holder cleared marks says
    → cells ended holder cleared (put marks place n) (put says (cell_of count place) (change (says (cell_of count place))))

module _ (cells : Cells) (slot_layout : SlotLayout) (good : List ℕ → Type 0) (allows : List ℕ → List ℕ → Type 0) (key : TableKey) (v : ArrayGhost) (queued : v.own.point ≡ Queued) where
  abbrev Rule : ArrayState → Type 0
  Rule = ArrayRule cells slot_layout good allows key

  abbrev pub roll_past : History → History
  roll_past x = record x { marks = put x.marks v.own.place v.view.node }

  abbrev pub roll_entry : History → ArrayGhost
  roll_entry x = record v { view = record v.view { state = port_state.Rolled; order = x.order; ends = x.ends; clear = x.clear; marked = v.view.marked ++ own v.view ∷ [] }; own = record v.own { point = Rolled }; steps = v.steps + 1 }

  module _ (x : History) (history_inv : HistoryInv good allows key x) (ok : NodeInv key x v.view.node v) (low : 0 < v.view.node) (later : length x.ends < v.own.place) where
    here : put x.marks v.own.place v.view.node v.own.place ≡ v.view.node
    here = put_here x.marks v.own.place v.view.node

    elsewhere : (p : ℕ) → p ≢ v.own.place → put x.marks v.own.place v.view.node p ≡ x.marks p
    elsewhere p ne = put_else x.marks v.own.place v.view.node p ne

    placed : At x.order v.own.place (own v.view)
    placed = asked_at cells slot_layout good allows key v queued x ok

    -- marks only grow
    more : (p : ℕ) → 0 < x.marks p → 0 < put x.marks v.own.place v.view.node p
    more p h = dite (ℕ_discrete p v.own.place) (λ e. subst (λ k. 0 < k) (sym (ap (put x.marks v.own.place v.view.node) e ∙ here)) low) (λ ne. subst (λ k. 0 < k) (sym (elsewhere p ne)) h)

    roll_node : NodeInv key (roll_past x) v.view.node (roll_entry x)
    roll_node = record {
      who = record { node = refl; label = ok.who.label; config = ok.who.config };
      knows = knows_whole x.order x.ends x.clear v.view.node (roll_entry x).view refl refl refl ok.knows.counts (freed_so key x v.view.node v ok);
      last_request = record {
        asked = λ _. ok.last_request.asked (λ e. let q = queued in cc);
        placed = λ _. placed;
        last_open = ok.last_request.last_open;
        idle = λ e. cc;
        queued = λ e. cc;
        holds_open = λ e. cc;
        freeing = λ e. cc;
        waits = λ e. cc;
      };
      holder = hand_none x.ends x.holder x.cleared v.view.node (roll_entry x) refl (ok.holder.lacks (ap has_line queued)) (λ e. cc);
      passes = passes_none ok.passes (ap is_releasing queued) (roll_entry x) (length x.ends) x.clear (put x.marks v.own.place v.view.node) x.releaser_of refl refl;
      marks = record {
        unmarked = λ e. cc;
        unclear = λ e. cc;
        rolled = λ _. here;
        known = λ p r at mine h. dite (ℕ_discrete p v.own.place)
            (λ e. subst (Has (v.view.marked ++ own v.view ∷ [])) (at_same x.order v.own.place (own v.view) r placed (subst (λ q. At x.order q r) e at)) (has_last v.view.marked (own v.view)))
            (λ ne. has_left v.view.marked (own v.view ∷ []) r (ok.marks.known p r at mine (subst (λ q. 0 < q) (elsewhere p ne) h)));
        last = λ p r at mine h lacks. dite (ℕ_discrete p v.own.place) (λ e. (refl, sym e))
            (λ ne. let k = (ok.marks.last p r at mine (subst (λ q. 0 < q) (elsewhere p ne) h) lacks).0 in let q = queued in absurd (cc));
        all = λ r h. ⊎_elim (λ z. let k = ok.marks.all r z in (k.0, k.1, more k.0 k.2)) (λ z. (v.own.place, subst (At x.order v.own.place) (sym z) placed, subst (λ q. 0 < q) (sym here) low)) (has_push v.view.marked (own v.view) r h);
      };
      flag = record {
        rolled = λ _. ok.flag.not_rolled (λ e. let q = queued in cc) ∙ ap (λ b. if b then 1 else 0) (sym (ok.marks.unclear (ap is_unfinished queued)));
        not_rolled = λ ne. absurd (ne refl);
      };
      joins = ok.joins;
    }

    roll_fine : HistoryInv good allows key (roll_past x)
    roll_fine = record {
      legal = history_inv.legal;
      nodes = history_inv.nodes;
      kept = history_inv.kept;
      sound = history_inv.sound;
      within = history_inv.within;
      cleared = history_inv.cleared;
      nobody = λ h. let k = history_inv.nobody h in (k.0, elsewhere (length x.ends) (λ e. omega arith) ∙ k.1);
      settled = history_inv.settled;
      marked = λ p h. dite (ℕ_discrete p v.own.place)
          (λ e. (own v.view, subst (λ q. At x.order q (own v.view)) (sym e) placed, sym (ap (put x.marks v.own.place v.view.node) e ∙ here)))
          (λ ne. let s = elsewhere p ne in let k = history_inv.marked p (subst (λ q. 0 < q) s h) in (k.0, k.1, k.2 ∙ sym s));
      gone = λ p e en. let h = slice_get_within x.ends p e en in let s = elsewhere p (λ q. omega arith) in let g = history_inv.gone p e en in
          ((λ z. subst (λ q. 0 < q) (sym s) (g.0 z)), (λ z. g.1 (subst (λ q. 0 < q) s z)));
    }

  module _ (s : ArrayState) (r : Rule s) (me i z : ℕ) (at : get_elem? s.views me ≡ some (v ∷ [])) (word : i ≡ cell_at (cell_of slot_layout.cells v.own.place)) (later : v.own.place ≢ length r.history.ends)
      (said : cells (length r.history.ends) r.history.holder r.history.cleared (put r.history.marks v.own.place v.view.node) (put (cells_in s.words) (cell_of slot_layout.cells v.own.place) z)) where
    ok : NodeInv key r.history v.view.node v
    ok = mine_ok cells slot_layout good allows key s r me v at

    low : 0 < v.view.node
    low = (mine_low cells slot_layout good allows key s r me v at).0

    after : length r.history.ends < v.own.place
    after = let q = ok.last_request.queued queued in omega arith

    -- the invariant once the cell is z
    pub rolls_rule : Rule record { words = set s.words i z; homes = s.homes; views = set s.views me (roll_entry r.history ∷ []) }
    rolls_rule = rule_step cells slot_layout good allows key s r me v (roll_entry r.history) (roll_past r.history) (set s.words i z) s.homes at refl (roll_fine r.history r.history_inv ok low after)
        (cell_shown cells slot_layout good allows key r.history s.words s.homes s.homes i (cell_of slot_layout.cells v.own.place) z word (mod-lt v.own.place slot_layout.some_cells) r.shown refl
        r.history.holder r.history.cleared r.history.ends r.history.clear (put r.history.marks v.own.place v.view.node) r.history.releaser_of said r.shown.home r.shown.spare) (roll_node r.history r.history_inv ok low after)
        (λ n a b ne. others_roll key r.history n (r.who n) (r.each n a b) v.view.node v.own.place (own v.view) (asked_at cells slot_layout good allows key v queued r.history ok) refl low ne)

    pub learns_roll : Continues allows v.view (roll_entry r.history).view
    learns_roll = continues good allows key r.history (roll_past r.history) (roll_fine r.history r.history_inv ok low after) v.view.node v.view.node v (roll_entry r.history) ok (roll_node r.history r.history_inv ok low after) refl
        ok.knows.orders ok.knows.endings ok.knows.clears (λ q h. h) (λ q h. has_left v.view.marked (own v.view ∷ []) q h) (λ q h. h)

    pub is_rolled : (token_of : ℕ → ℕ) → IsRolled token_of (token_of v.own.place) (roll_entry r.history)
    is_rolled token_of = record {
      stands = refl;
      withdrawn = record {
        state = refl;
        waits = (v.own.place, after, asked_at cells slot_layout good allows key v queued r.history ok);
        near = few_open cells slot_layout good allows key s r v.view.config ok.who.config;
        marked = has_last v.view.marked (own v.view);
      };
    }

  module _ (token_of : ℕ → ℕ) (waits comes_to : ℕ → ℕ → Type 0) (change : ℕ → ℕ) (may_take : MayTake slot_layout) (takes_line : Takes slot_layout.cells cells waits v.own.place v.view.node change) (stays : StaysBehind slot_layout.cells cells comes_to v.own.place) (withdraws : Withdraws slot_layout.cells cells v.own.place v.view.node change) where
    pub rolls_next : (me slots i : ℕ) (m : SeatContents) → m ≡ (v ∷ [], []) → i ≡ cell_at (cell_of slot_layout.cells v.own.place) → Allows Rule slots me m i change (rolled allows token_of slot_layout waits comes_to (step slots i 0 0 none) m)
    rolls_next me slots i m is word = subst (λ (z : SeatContents). Allows Rule slots me z i change (rolled allows token_of slot_layout waits comes_to (step slots i 0 0 none) z)) (sym is) (λ s r deep at small. dite (ℕ_discrete v.own.place (length r.history.ends))
        (λ here. let y = home cells slot_layout good allows key v queued s r me i at word may_take here in let taking = act cells slot_layout good allows key v queued s r me i at word may_take here in (
          take_entry cells slot_layout good allows key v queued r.history ∷ [],
          taking.0,
          taking.1,
          taken_rule cells slot_layout good allows key v queued s r me i at word may_take here waits change takes_line,
          (
            goes_step allows (v ∷ [], []) v (take_entry cells slot_layout good allows key v queued r.history) (carried_after [] taking.0) refl (learns_take cells slot_layout good allows key v queued s r me i at word may_take here) refl,
            refl,
            (λ w. absurd (taken_not_waits cells slot_layout good allows key v queued s r me i at word may_take here waits change takes_line w)),
            (λ _. (y.0, brought cells slot_layout good allows key v queued s r me i at word may_take here, shows_turn cells slot_layout good allows key v queued s r me i at word may_take here token_of)),
          ),
        ))
        (λ later. let b = behind cells slot_layout good allows key v queued s r me i at word later in let n = near cells slot_layout good allows key v queued s r me i at word in
        let found = found_is cells slot_layout good allows key v queued s r me i at word in
        let low = mine_low cells slot_layout good allows key s r me v at in let low_node = low.0 in let high_node = low.1 in let few = r.may_open.nodes.few in
        let said = subst (λ k. cells (length r.history.ends) r.history.holder r.history.cleared (put r.history.marks v.own.place v.view.node) (put (cells_in s.words) (cell_of slot_layout.cells v.own.place) (change k))) (sym found)
        (withdraws (length r.history.ends) r.history.holder r.history.cleared r.history.marks (cells_in s.words) low.0 (omega arith) b.0 n b.1 r.shown.said) in (
          roll_entry r.history ∷ [],
          keeps,
          tt,
          rolls_rule s r me i (change (slice_index s.words i)) at word later said,
          (
            goes_step allows (v ∷ [], []) v (roll_entry r.history) [] refl (learns_roll s r me i (change (slice_index s.words i)) at word later said) refl,
            refl,
            (λ _. (refl, is_rolled s r me i (change (slice_index s.words i)) at word later said token_of)),
            (λ c. absurd (stays (length r.history.ends) r.history.holder r.history.cleared r.history.marks (cells_in s.words) b.0 n b.1 r.shown.said
                (subst (comes_to v.own.place) found c))),
          ),
        )))
