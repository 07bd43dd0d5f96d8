-- Proof about the atomic step with which the node that has the line clears the cell of the request whose turn it is.
use Rattle.std.proofs.Common.{◌≡◌, ◌≢◌, ◌⊎◌, ℕ, ◌+◌, ◌<◌, List, [], ◌∷◌, length, set, true, sym, refl, ap, ◌∙◌, ⊎_elim, arith, mod-lt}
use mathlib.Core.Option.{none, some}
use lib.ListN.{get_elem?}
use Rattle.atomic_table.specs.Table.{step, keeps, Allows}
use Rattle.line_cells.specs.declared.local.Point.TheVariants.{Idle, Holding, Passing, Rolled}
use Rattle.line_generic.specs.declared.table.TableKey.{TableKey}
use Rattle.line_cells.specs.Layout.{cell_at, cells_in}
use Rattle.ring_line.specs.Layout.{cell_of}
use Rattle.line_cells.specs.Array.{ArrayGhost, History, Walks, NodeInv, Represents, has_line, is_unfinished}
use Rattle.line_cells.specs.SlotLayout.{Homes, one_slot}
use Rattle.ring_line.specs.Ring.{RingCells, RingRule}
use Rattle.line_cells.specs.Steps.{single, SeatContents}
use Rattle.ring_line.specs.Steps.{cleared, after_clear}
use Rattle.qolb_model.proofs.Prefixes.{prefix_self}
use Rattle.line_cells.proofs.OneNode.{clash_at, passed_goes}
use Rattle.line_cells.proofs.Nodes.{others_hand}
use Rattle.line_cells.proofs.Keeping.{rule_step, mine_ok, mine_low, cell_shown}
use Rattle.line_cells.proofs.Taking.{cells_apart, at_turn, line_kept}
use Rattle.line_cells.specs.declared.layout.TheConstants.{CELLS}
use Rattle.qolb_model.proofs.Updates.{put_here, put_else}

module _ (good : List ℕ → Type 0) (allows : List ℕ → List ℕ → Type 0) (key : TableKey) (v : ArrayGhost) (passing : (v.own.point ≡ Holding) ⊎ (v.own.point ≡ Passing)) where
  abbrev cleared_entry : ArrayGhost
  cleared_entry = after_clear v

  abbrev cleared_past : History → History
  cleared_past x = record x { cleared = true }

  has_it : has_line v.own.point ≡ true
  has_it = ⊎_elim (λ e. ap has_line e) (λ e. ap has_line e) passing

  keeps_it : is_unfinished v.own.point ≡ true
  keeps_it = line_kept v.own.point has_it

  not_idle : v.own.point ≢ Idle
  not_idle e = clash_at has_line Idle has_it e refl

  not_rolled : v.own.point ≢ Rolled
  not_rolled e = clash_at has_line Rolled has_it e refl

  cleared_node : (x : History) → NodeInv key x v.view.node v → NodeInv key (cleared_past x) v.view.node cleared_entry
  cleared_node x ok = record {
    who = ok.who;
    knows = ok.knows;
    last_request = record {
      asked = λ _. ok.last_request.asked not_idle;
      placed = ok.last_request.placed;
      last_open = ok.last_request.last_open;
      idle = λ e. cc;
      queued = λ e. cc;
      holds_open = λ e. cc;
      freeing = λ e. cc;
      waits = λ _. ok.last_request.waits keeps_it;
    };
    holder = record {
      holds = λ _. let h = ok.holder.holds has_it in (h.0, h.1, refl);
      lacks = λ e. cc;
      is_holder = λ e. (refl, (ok.holder.is_holder e).1);
    };
    passes = record {
      walking = λ _ _. walks;
      freeing = λ e. cc;
      passed = λ i p at. let h = ok.passes.passed i p at in passed_goes v.view.node p v cleared_entry (length x.ends) (length x.ends) x.clear x.clear x.marks x.marks x.releaser_of x.releaser_of h refl refl (omega arith) h.marked (prefix_self v.view.order) h.unclear;
      once = ok.passes.once;
    };
    marks = record {
      unmarked = λ _. ok.marks.unmarked keeps_it;
      unclear = λ _. ok.marks.unclear keeps_it;
      rolled = λ e. cc;
      known = ok.marks.known;
      last = λ p r at mine h lacks. absurd (not_rolled (ok.marks.last p r at mine h lacks).0);
      all = ok.marks.all;
    };
    flag = record {
      rolled = λ e. cc;
      not_rolled = λ _. ok.flag.not_rolled not_rolled;
    };
    joins = ok.joins;
  }
    where
      walks : Walks (length x.ends) x.marks v
      walks = at_turn key x v.view.node v ok has_it

  cleared_shown : (x : History) (words : List ℕ) (homes : Homes) (i : ℕ) → i ≡ cell_at (cell_of (length x.ends)) → x.holder ≡ v.view.node → 0 < v.view.node → Represents RingCells one_slot good allows key x words homes → Represents RingCells one_slot good allows key (cleared_past x) (set words i 0) homes
  cleared_shown x words homes i is mine low h = cell_shown RingCells one_slot good allows key x words homes homes i (cell_of (length x.ends)) 0 is (mod-lt (length x.ends) (omega arith)) h refl x.holder true x.ends x.clear x.marks x.releaser_of
      (record {
        blank = λ _. put_here (cells_in words) (cell_of (length x.ends)) 0;
        granted = λ e. absurd (omega arith);
        later = λ k a b. put_else (cells_in words) (cell_of (length x.ends)) 0 (cell_of (length x.ends + k)) (cells_apart CELLS (length x.ends) k a b) ∙ h.said.later k a b;
      })
      h.home
      h.spare

  pub clears_next : (me slots i : ℕ) (m : SeatContents) → m.0 ≡ v ∷ [] → i ≡ cell_at (cell_of (length v.view.ends)) → Allows (RingRule good allows key) slots me m i (λ _. 0) (λ _. cleared (step slots i 0 0 none) m 0)
  clears_next me slots i m is word s r deep at small = (
    cleared_entry ∷ [],
    keeps,
    tt,
    rule_step RingCells one_slot good allows key s r me v cleared_entry (cleared_past r.history) (set s.words i 0) s.homes at' refl
        (record { legal = r.history_inv.legal; nodes = r.history_inv.nodes; kept = r.history_inv.kept; sound = r.history_inv.sound; within = r.history_inv.within; cleared = r.history_inv.cleared; nobody = λ e. absurd (held e); settled = λ e. absurd (held e); marked = r.history_inv.marked; gone = r.history_inv.gone })
        (cleared_shown r.history s.words s.homes i (word ∙ ap (λ es. cell_at (cell_of (length es))) (ok.holder.holds has_it).0) mine low r.shown)
        (cleared_node r.history ok)
        (λ n a b ne. others_hand key r.history n (r.who n) (r.each n a b) r.history.holder true (λ e. ne (sym e ∙ mine)) (λ e. ne (sym e ∙ mine))),
    (λ j. (after_clear (single (sym is j)) ∷ [], m.1)),
  )
    where
      at' : get_elem? s.views me ≡ some (v ∷ [])
      at' = at ∙ ap some is

      ok : NodeInv key r.history v.view.node v
      ok = mine_ok RingCells one_slot good allows key s r me v at'

      low : 0 < v.view.node
      low = (mine_low RingCells one_slot good allows key s r me v at').0

      mine : r.history.holder ≡ v.view.node
      mine = (ok.holder.holds has_it).1

      held : r.history.holder ≡ 0 → ⊥
      held e = let h = mine in let l = low in omega arith
