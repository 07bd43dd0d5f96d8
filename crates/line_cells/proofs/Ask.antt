-- Proof about the atomic step with which a node requests the line: the node draws a ticket.
use Rattle.std.proofs.Common.{◌≡◌, ℕ, ◌+◌, ◌%◌, ◌^◌, ◌<◌, ◌≤◌, List, [], ◌∷◌, ◌++◌, length, set, slice_index, sym, refl, ap, ◌∙◌, subst, ⊎_elim, arith, length-append, length-set, get_or-set_same, get_or-set_other}
use mathlib.Core.Logic.{dite}
use mathlib.Core.Option.{none, some}
use native.Mathlib.Decide.{ℕ_discrete}
use native.Mathlib.Nat.{mod-add-mod}
use lib.ListN.{get_elem?}
use Rattle.std.proofs.lemmas.Option.{slice_get_within}
use Rattle.atomic_table.specs.Table.{step, keeps, Allows}
use Rattle.qolb_model.specs.declared.answer.PortState.TheVariants as port_state
use Rattle.qolb_model.specs.declared.request.Request.{Request}
use Rattle.qolb_model.specs.Requests.{Has, count_of, next_of}
use Rattle.qolb_model.specs.Views.{own}
use Rattle.qolb_model.specs.Sound.{Continues}
use Rattle.qolb_model.proofs.Lists.{slice_get-push, push_cases, at_longer}
use Rattle.qolb_model.proofs.Prefixes.{prefix_length, prefix_append, prefix_more}
use Rattle.qolb_model.proofs.Requests.{count_of-push_same, has_left, has_last, has_push, lacks_from, same_place, has_prefix}
use Rattle.qolb_model.proofs.Histories.{legal_ask}
use Rattle.line_cells.specs.declared.local.Point.TheVariants.{Idle, Queued}
use Rattle.line_generic.specs.declared.table.TableKey.{TableKey}
use Rattle.line_cells.specs.Layout.{ticket_at, node_at}
use Rattle.line_cells.specs.SlotLayout.{SlotLayout, Homes}
use Rattle.line_cells.specs.Array.{ArrayGhost, At, Cells, History, NodeInv, HistoryInv, Represents, ArrayRule, has_line, is_releasing}
use Rattle.line_cells.specs.Steps.{single, SeatContents, TakesTicket, drawn}
use Rattle.line_cells.proofs.OneNode.{knows_whole, hand_none}
use Rattle.line_cells.proofs.Nodes.{others_ask, passes_none, freed_so}
use Rattle.line_cells.proofs.Histories.{continues}
use Rattle.line_cells.proofs.Keeping.{cells_else, rule_step, mine_ok, mine_low}
use Rattle.line_cells.proofs.Turning.{goes_step}
use Rattle.qolb_model.proofs.Clearing.{clears_ended, clears_later}

module _ (cells : Cells) (slot_layout : SlotLayout) (good : List ℕ → Type 0) (allows : List ℕ → List ℕ → Type 0) (key : TableKey) (v : ArrayGhost) (idle : v.own.point ≡ Idle) where
  abbrev new : History → Request
  new x = next_of v.view.node x.order

  abbrev ask_past : History → History
  ask_past x = record x { order = x.order ++ new x ∷ [] }

  abbrev ask_entry : History → ArrayGhost
  ask_entry x = record {
    view = record v.view { count = count_of v.view.node x.order + 1; state = port_state.Queued; order = x.order ++ new x ∷ []; ends = x.ends; clear = x.clear; joined = v.view.joined ++ new x ∷ [] };
    own = record v.own { point = Queued; place = length x.order };
    steps = v.steps + 1;
  }

  ask_node : (x : History) → HistoryInv good allows key x → NodeInv key x v.view.node v → NodeInv key (ask_past x) v.view.node (ask_entry x)
  ask_node x f ok = record {
    who = record { node = refl; label = ok.who.label; config = ok.who.config };
    knows = knows_whole (x.order ++ new x ∷ []) x.ends x.clear v.view.node (ask_entry x).view refl refl refl (count_of-push_same v.view.node x.order (new x) refl) (freed_so key x v.view.node v ok);
    last_request = record {
      asked = λ _. omega arith;
      placed = λ _. slice_get-push x.order (new x);
      last_open = λ p r at mine h. (omega arith, ⊎_elim (λ t. absurd (ended p r t.1 mine h)) (λ t. t.0) (push_cases x.order (new x) p r at));
      idle = λ e. cc;
      queued = λ _. f.legal.ended;
      holds_open = λ e. cc;
      freeing = λ e. cc;
      waits = λ _ _. refl;
    };
    holder = hand_none x.ends x.holder x.cleared v.view.node (ask_entry x) refl (ok.holder.lacks (ap has_line idle)) (λ e. cc);
    passes = passes_none ok.passes (ap is_releasing idle) (ask_entry x) (length x.ends) x.clear x.marks x.releaser_of refl refl;
    marks = record {
      unmarked = λ _. unmarked_new;
      unclear = λ _. lacks_from x.clear (new x) fresh_request;
      rolled = λ e. cc;
      known = λ p r at mine h. ⊎_elim (λ t. ok.marks.known p r t.1 mine h) (λ t. absurd (let k : x.marks p ≡ 0 = ap x.marks t.0 ∙ unmarked_new in omega arith)) (push_cases x.order (new x) p r at);
      last = λ p r at mine h lacks. ⊎_elim (λ t. absurd (let k = (ok.marks.last p r t.1 mine h lacks).0 in let i = idle in cc)) (λ t. absurd (let k : x.marks p ≡ 0 = ap x.marks t.0 ∙ unmarked_new in omega arith)) (push_cases x.order (new x) p r at);
      all = λ r h. let k = ok.marks.all r h in (k.0, at_longer x.order (new x ∷ []) k.0 r k.1, k.2);
    };
    flag = record {
      rolled = λ e. cc;
      not_rolled = λ _. ok.flag.not_rolled (λ e. let i = idle in cc);
    };
    joins = record {
      known = λ p r at mine. ⊎_elim (λ t. has_left v.view.joined (new x ∷ []) r (ok.joins.known p r t.1 mine)) (λ t. subst (Has (v.view.joined ++ new x ∷ [])) (sym t.1) (has_last v.view.joined (new x))) (push_cases x.order (new x) p r at);
      all = λ r h. ⊎_elim (λ t. has_left x.order (new x ∷ []) r (ok.joins.all r t)) (λ t. subst (Has (x.order ++ new x ∷ [])) (sym t) (has_last x.order (new x))) (has_push v.view.joined (new x) r h);
    };
  }
    where
      unmarked_new : x.marks (length x.order) ≡ 0
      unmarked_new = dite (ℕ_discrete (x.marks (length x.order)) 0) (λ z. z) (λ ne. let k = f.marked (length x.order) (omega arith) in let h = slice_get_within x.order (length x.order) k.0 k.1 in absurd (omega arith))

      -- the new request is at one place
      fresh_request : Has x.clear (new x) → ⊥
      fresh_request h = let o = clears_ended f.cleared (new x) h in let l = legal_ask key.config.lease x.order x.ends v.view.node f.legal in
          let q = same_place (x.order ++ new x ∷ []) l.numbered o.0 (length x.order) (new x) (at_longer x.order (new x ∷ []) o.0 (new x) o.2) (slice_get-push x.order (new x)) in
          let b = o.1 in let e = f.legal.ended in omega arith

      -- none of the node's earlier requests is open
      ended : (p : ℕ) (r : Request) → At x.order p r → r.node ≡ v.view.node → length x.ends ≤ p → ⊥
      ended p r at mine h = let o = ok.last_request.last_open p r at mine h in let i = (ok.last_request.idle idle o.0).0 in let e = o.1 in omega arith

  ask_fine : (x : History) → 0 < v.view.node → v.view.node ≤ key.config.nodes → HistoryInv good allows key x → HistoryInv good allows key (ask_past x)
  ask_fine x a b f = record {
    legal = legal_ask key.config.lease x.order x.ends v.view.node f.legal;
    nodes = λ p r at. ⊎_elim (λ t. f.nodes p r t.1) (λ t. subst (λ (z : Request). (0 < z.node) × (z.node ≤ key.config.nodes)) (sym t.1) (a, b)) (push_cases x.order (new x) p r at);
    kept = f.kept;
    sound = f.sound;
    within = f.within;
    cleared = clears_later (prefix_append x.order (new x ∷ [])) (omega arith) f.cleared;
    nobody = f.nobody;
    settled = λ h p r end before at en kind. ⊎_elim (λ t. f.settled h p r end before t.1 en kind) (λ t. let l = f.legal.ended in let e = t.0 in absurd (omega arith)) (push_cases x.order (new x) p r at);
    marked = λ p h. let k = f.marked p h in (k.0, at_longer x.order (new x ∷ []) p k.0 k.1, k.2);
    gone = f.gone;
  }

  ask_shown : (x : History) (words : List ℕ) (homes : Homes) → Represents cells slot_layout good allows key x words homes → Represents cells slot_layout good allows key (ask_past x) (set words ticket_at ((slice_index words ticket_at + 1) % 2 ^ 64)) homes
  ask_shown x words homes h = let next : ℕ = (slice_index words ticket_at + 1) % 2 ^ 64 in record {
    more = h.more;
    wide = length-set words ticket_at next ∙ h.wide;
    deep = h.deep;
    ticket = get_or-set_same words ticket_at next 0 (let w = h.wide in omega arith) ∙ ap (λ k. (k + 1) % 2 ^ 64) h.ticket ∙ mod-add-mod (length x.order) (2 ^ 64) 1 ∙ ap (λ k. k % 2 ^ 64) (sym (length-append x.order (new x ∷ [])));
    said = subst (cells (length x.ends) x.holder x.cleared x.marks) (sym (cells_else words ticket_at next (λ c e. omega arith))) h.said;
    flags = λ n a b. get_or-set_other words ticket_at (node_at n) next 0 (λ e. omega arith) ∙ h.flags n a b;
    home = h.home;
    spare = h.spare;
  }

  pub asks_next : (me slots : ℕ) (m : SeatContents) → m.0 ≡ v ∷ [] → Allows (ArrayRule cells slot_layout good allows key) slots me m ticket_at (λ n. (n + 1) % 2 ^ 64) (drawn allows (step slots ticket_at 1 0 none) m)
  asks_next me slots m is s r deep at small = (
    ask_entry r.history ∷ [],
    keeps,
    tt,
    rule_step cells slot_layout good allows key s r me v (ask_entry r.history) (ask_past r.history) (set s.words ticket_at ((slice_index s.words ticket_at + 1) % 2 ^ 64)) s.homes at' refl history_inv' (ask_shown r.history s.words s.homes r.shown) (ask_node r.history r.history_inv ok)
        (λ n a b ne. others_ask key r.history n (r.who n) (r.each n a b) (new r.history) (λ e. ne (sym e))),
    (
      refl,
      goes_step allows m v (ask_entry r.history) m.1 is learns refl,
      r.shown.ticket,
      subst (λ u. TakesTicket (single u) (ask_entry r.history)) (sym is) record {
        state = refl;
        point = refl;
        asks = record {
          was_clear = λ before. has_prefix v.view.clear r.history.clear (own v.view) ok.knows.clears (ok.last_request.idle idle before).1;
          count = ap (λ k. k + 1) ok.knows.counts;
          behind = (length r.history.order, prefix_length v.view.order r.history.order ok.knows.orders, slice_get-push r.history.order (new r.history));
        };
        joined = has_last v.view.joined (new r.history);
      },
    ),
  )
    where
      at' : get_elem? s.views me ≡ some (v ∷ [])
      at' = at ∙ ap some is

      ok : NodeInv key r.history v.view.node v
      ok = mine_ok cells slot_layout good allows key s r me v at'

      history_inv' : HistoryInv good allows key (ask_past r.history)
      history_inv' = let l = mine_low cells slot_layout good allows key s r me v at' in ask_fine r.history l.0 l.1 r.history_inv

      learns : Continues allows v.view (ask_entry r.history).view
      learns = continues good allows key r.history (ask_past r.history) history_inv' v.view.node v.view.node v (ask_entry r.history) ok (ask_node r.history r.history_inv ok) refl
          (prefix_more v.view.order r.history.order (new r.history ∷ []) ok.knows.orders) ok.knows.endings ok.knows.clears (λ q h. has_left v.view.joined (new r.history ∷ []) q h) (λ q h. h) (λ q h. h)
