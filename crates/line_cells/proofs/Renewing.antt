-- Proof about what a node with a withdrawn request does before its next request. The node reads its own word. If this
-- word shows that a release has skipped the withdrawn request, the node sets the word back to 0.
use Rattle.std.proofs.Common.{◌≡◌, ◌≢◌, ℕ, ◌<◌, ◌≤◌, List, [], ◌∷◌, length, set, slice_index, Bool, true, false, if◌then◌else◌, sym, refl, ap, ◌∙◌, subst, arith}
use mathlib.Core.Option.{none, some}
use lib.ListN.{get_elem?}
use lib.Seq.{set-get_or}
use Rattle.atomic_table.specs.Table.{step, keeps, Allows}
use Rattle.qolb_model.specs.Requests.{Has, has}
use Rattle.qolb_model.specs.Views.{own}
use Rattle.qolb_model.specs.Sound.{Continues}
use Rattle.qolb_model.proofs.Requests.{same_place, has_prefix}
use Rattle.qolb_model.proofs.Lists.{never, at_same}
use Rattle.qolb_model.proofs.Updates.{put, put_here}
use Rattle.line_cells.specs.declared.local.Point.TheVariants.{Rolled}
use Rattle.line_generic.specs.declared.table.TableKey.{TableKey}
use Rattle.line_cells.specs.Layout.{node_at}
use Rattle.line_cells.specs.SlotLayout.{SlotLayout}
use Rattle.line_cells.specs.Array.{ArrayGhost, ArrayState, At, Cells, History, NodeInv, HistoryInv, ArrayRule, has_line, is_releasing, is_unfinished}
use Rattle.line_cells.specs.Steps.{single, SeatContents, TellsIfClear, loaded_node, reset, after_reset}
use Rattle.line_cells.proofs.OneNode.{clash_at, placed_at, hand_none}
use Rattle.line_cells.proofs.Nodes.{others_reset, learned, learned_ok, passes_none}
use Rattle.line_cells.proofs.Histories.{continues}
use Rattle.line_cells.proofs.Keeping.{rule_step, mine_ok, mine_low, flag_shown}
use Rattle.line_cells.proofs.Clearing.{fine_flags}
use Rattle.line_cells.proofs.Turning.{goes_step}
use Rattle.qolb_model.proofs.Clearing.{clears_ended}

-- the word of a node that withdrew: 1 if its request is clear
abbrev word_of : Bool → ℕ
word_of b = if b then 1 else 0

module _ (cells : Cells) (slot_layout : SlotLayout) (good : List ℕ → Type 0) (allows : List ℕ → List ℕ → Type 0) (key : TableKey) (v : ArrayGhost) (rolled : v.own.point ≡ Rolled) where
  abbrev Rule : ArrayState → Type 0
  Rule = ArrayRule cells slot_layout good allows key

  module _ (s : ArrayState) (r : Rule s) (me i : ℕ) (at : get_elem? s.views me ≡ some (v ∷ [])) (word : i ≡ node_at v.view.node) where
    ok : NodeInv key r.history v.view.node v
    ok = mine_ok cells slot_layout good allows key s r me v at

    abbrev still_entry : ArrayGhost
    still_entry = learned key r.history v.view.node v ok v.view.state

    still_ok : NodeInv key r.history v.view.node still_entry
    still_ok = learned_ok key r.history v.view.node v ok v.view.state (λ e. clash_at has_line Rolled (ok.holder.is_holder e).0 rolled refl) (ap is_releasing rolled) (ap has_line rolled) (λ k. absurd (clash_at is_unfinished Rolled k rolled refl))

    still_rule : Rule record { words = set s.words i (slice_index s.words i); homes = s.homes; views = set s.views me (still_entry ∷ []) }
    still_rule = subst (λ ws. Rule record { words = ws; homes = s.homes; views = set s.views me (still_entry ∷ []) }) (sym (set-get_or s.words i 0))
        (rule_step cells slot_layout good allows key s r me v still_entry r.history s.words s.homes at refl r.history_inv r.shown still_ok (λ n a b ne. r.each n a b))

    found : slice_index s.words i ≡ (if has r.history.clear (own v.view) then 1 else 0)
    found = let l = mine_low cells slot_layout good allows key s r me v at in let f = r.may_open.nodes.few in let low = l.0 in let high = l.1 in ap (slice_index s.words) word ∙ r.shown.flags v.view.node low (omega arith) ∙ ok.flag.rolled rolled

    is_still : TellsIfClear v (slice_index s.words i) still_entry
    is_still = record {
      point = rolled;
      state = refl;
      count = refl;
      unclear = λ z. zero (has r.history.clear (own v.view)) (sym found ∙ z);
      clear = λ ne. one (has r.history.clear (own v.view)) (λ z. ne (found ∙ z));
    }
      where
        one_zero : word_of true ≡ 0 → ⊥
        one_zero e = omega arith

        zero : (b : Bool) → word_of b ≡ 0 → b ≡ false
        zero true e = absurd (one_zero e)
        zero false e = refl

        one : (b : Bool) → word_of b ≢ 0 → b ≡ true
        one true ne = refl
        one false ne = absurd (ne refl)

    learns_still : Continues allows v.view still_entry.view
    learns_still = continues good allows key r.history r.history r.history_inv v.view.node v.view.node v still_entry ok still_ok refl ok.knows.orders ok.knows.endings ok.knows.clears (λ q h. h) (λ q h. h) (λ q h. h)

  pub loads_node_next : (me slots i : ℕ) (m : SeatContents) → m.0 ≡ v ∷ [] → i ≡ node_at v.view.node → Allows Rule slots me m i (λ n. n) (loaded_node allows (step slots i 0 0 none) m)
  loads_node_next me slots i m is word s r deep at small = let at' : get_elem? s.views me ≡ some (v ∷ []) = at ∙ ap some is in (
    still_entry s r me i at' word ∷ [],
    keeps,
    tt,
    still_rule s r me i at' word,
    (
      refl,
      goes_step allows m v (still_entry s r me i at' word) m.1 is (learns_still s r me i at' word) refl,
      subst (λ u. TellsIfClear (single u) (slice_index s.words i) (still_entry s r me i at' word)) (sym is) (is_still s r me i at' word),
    ),
  )

  module _ (clear : Has v.view.clear (own v.view)) where
    abbrev reset_entry : ArrayGhost
    reset_entry = after_reset v

    abbrev reset_past : History → History
    reset_past x = record x { flags = put x.flags v.view.node 0 }

    reset_node : (x : History) → HistoryInv good allows key x → NodeInv key x v.view.node v → NodeInv key (reset_past x) v.view.node reset_entry
    reset_node x f ok = record {
      who = ok.who;
      knows = ok.knows;
      last_request = record {
        asked = λ ne. absurd (ne refl);
        placed = ok.last_request.placed;
        last_open = ok.last_request.last_open;
        idle = λ _ c. (ended c, clear);
        queued = λ e. cc;
        holds_open = λ e. cc;
        freeing = λ e. cc;
        waits = λ e. cc;
      };
      holder = hand_none x.ends x.holder x.cleared v.view.node reset_entry refl (ok.holder.lacks (ap has_line rolled)) (λ e. clash_at has_line Rolled (ok.holder.is_holder e).0 rolled refl);
      passes = passes_none ok.passes (ap is_releasing rolled) reset_entry (length x.ends) x.clear x.marks x.releaser_of refl refl;
      marks = record {
        unmarked = λ e. cc;
        unclear = λ e. cc;
        rolled = λ e. cc;
        known = ok.marks.known;
        last = λ p r at mine h lacks. absurd (let k = ok.marks.last p r at mine h lacks in
            let same : r ≡ own v.view = at_same x.order p r (own v.view) at (subst (λ q. At x.order q (own v.view)) k.1 (placed_at key x v.view.node v ok (ok.last_request.asked (λ e. let q = rolled in cc)))) in
            never (subst (Has x.clear) (sym same) (has_prefix v.view.clear x.clear (own v.view) ok.knows.clears clear)) lacks);
        all = ok.marks.all;
      };
      flag = record {
        rolled = λ e. cc;
        not_rolled = λ _. put_here x.flags v.view.node 0;
      };
      joins = ok.joins;
    }
      where
        ended : 0 < v.view.count → v.own.place < length x.ends
        ended c = let o = clears_ended f.cleared (own v.view) (has_prefix v.view.clear x.clear (own v.view) ok.knows.clears clear) in
            subst (λ q. q < length x.ends) (same_place x.order f.legal.numbered o.0 v.own.place (own v.view) o.2 (placed_at key x v.view.node v ok c)) o.1

    pub resets_next : (me slots i : ℕ) (m : SeatContents) → m.0 ≡ v ∷ [] → i ≡ node_at v.view.node → Allows Rule slots me m i (λ _. 0) (λ _. reset (step slots i 0 0 none) m 0)
    resets_next me slots i m is word s r deep at small = (
      reset_entry ∷ [],
      keeps,
      tt,
      rule_step cells slot_layout good allows key s r me v reset_entry (reset_past r.history) (set s.words i 0) s.homes at' refl
          (fine_flags good allows key r.history (put r.history.flags v.view.node 0) r.history_inv)
          (flag_shown cells slot_layout good allows key r.history r.history.clear s.words s.homes i v.view.node 0 word low.0 (let l = low.1 in let f = r.may_open.nodes.few in omega arith) r.shown)
          (reset_node r.history r.history_inv (mine_ok cells slot_layout good allows key s r me v at'))
          (λ n a b ne. others_reset key r.history n (r.who n) (r.each n a b) v.view.node ne),
      (λ j. (after_reset (single (sym is j)) ∷ [], m.1)),
    )
      where
        at' : get_elem? s.views me ≡ some (v ∷ [])
        at' = at ∙ ap some is

        low : (0 < v.view.node) × (v.view.node ≤ key.config.nodes)
        low = mine_low cells slot_layout good allows key s r me v at'
