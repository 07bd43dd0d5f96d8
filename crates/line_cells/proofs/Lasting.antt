-- Lemmas about the table of a line that is being finished. One seat then has the ghost states of all nodes, and no
-- request is open.
use Rattle.std.proofs.Common.{◌≡◌, ◌⊎◌, inl, inr, ⊎_elim, ℕ, ◌<◌, ◌≤◌, List, length, slice_index, map, true, sym, refl, ap, ◌∙◌, subst, arith}
use mathlib.Core.Logic.{dite}
use mathlib.Core.Option.{some}
use native.Mathlib.Decide.{ℕ_discrete}
use lib.ListN.{get_elem?}
use Rattle.atomic_table.specs.Table.{Final}
use Rattle.qolb_model.specs.declared.answer.PortState.{PortState}
use Rattle.qolb_model.specs.declared.answer.PortState.TheVariants as port_state
use Rattle.qolb_model.specs.declared.view.View.{View}
use Rattle.qolb_model.specs.PortStates.{may_ask}
use Rattle.qolb_model.specs.declared.request.Request.{Request}
use Rattle.qolb_model.specs.OneHistory.{IsAmong}
use Rattle.qolb_model.specs.Finishing.{IsFinalLine}
use Rattle.qolb_model.proofs.Lists.{element_at}
use Rattle.qolb_model.proofs.Agreeing.{among_map_port}
use Rattle.qolb_model.proofs.Finishing.{once_map}
use Rattle.qolb_model.proofs.Seats.{once_each}
use Rattle.line_generic.specs.NodeGhosts.{node_of, AllInState, views_of}
use Rattle.line_cells.specs.declared.local.Point.TheVariants.{Idle, Rolled}
use Rattle.line_cells.specs.declared.local.Local.{Local}
use Rattle.line_cells.specs.BetweenCalls.{in_state}
use Rattle.line_generic.specs.declared.table.TableKey.{TableKey}
use Rattle.line_generic.specs.declared.table.Payload.{Payload}
use Rattle.line_cells.specs.Layout.{ticket_at, ticket_of}
use Rattle.line_cells.specs.SlotLayout.{SlotLayout}
use Rattle.line_cells.specs.Array.{ArrayGhost, ArrayState, At, Cells, NodeInv, ArrayRule, has_line}
use Rattle.line_cells.proofs.Histories.{one_history}

-- a node at rest has no request, or a withdrawn one
stands_still : (token_of : ℕ → ℕ) (nodes : ℕ) (state : PortState) (token : ℕ) (own : Local) → may_ask state ≡ true → in_state token_of nodes state token own → (own.point ≡ Idle) ⊎ (own.point ≡ Rolled)
stands_still token_of nodes port_state.Idle token own may h = inl h
stands_still token_of nodes port_state.Linking token own may h = absurd h
stands_still token_of nodes port_state.Queued token own may h = absurd (cc may)
stands_still token_of nodes port_state.Holding token own may h = absurd h
stands_still token_of nodes port_state.Left token own may h = absurd h
stands_still token_of nodes port_state.Rolled token own may h = inr h
stands_still token_of nodes port_state.Shut token own may h = inl h

module _ (cells : Cells) (slot_layout : SlotLayout) (good : List ℕ → Type 0) (allows : List ℕ → List ℕ → Type 0) (key : TableKey) (entries : List ArrayGhost) (token_of : ℕ → ℕ) (at_rest : AllInState (in_state token_of) key.config.nodes entries) where
  abbrev Rule : ArrayState → Type 0
  Rule = ArrayRule cells slot_layout good allows key

  module _ (id : ℕ) (s : ArrayState) (r : Rule s) (at : get_elem? s.views id ≡ some entries) where
    -- the node n is at rest
    rest_ok : (n : ℕ) → 0 < n → n ≤ key.config.nodes → (v : ArrayGhost) × NodeInv key r.history n v × ((v.own.point ≡ Idle) ⊎ (v.own.point ≡ Rolled))
    rest_ok n a b = let i = at_rest n a b in let m = r.members id i.0 entries i.1 at i.2 in let still = i.4 in
        (i.1, subst (λ k. NodeInv key r.history k i.1) i.3 (subst (NodeInv key r.history i.1.view.node) m.is (r.each i.1.view.node m.low m.high)), stands_still token_of i.1.view.config.nodes still.0 still.1 i.1.own still.2 still.3)

    nobody : r.history.holder ≡ 0
    nobody = dite (ℕ_discrete r.history.holder 0) (λ e. e) (λ ne. let k = rest_ok r.history.holder (omega arith) r.history_inv.within in absurd (k.1.holder.lacks (⊎_elim (λ i. ap has_line i) (λ i. ap has_line i) k.2) refl))

    -- a node at rest has no request at its turn
    no_turn : (q : Request) → At r.history.order (length r.history.ends) q → ⊥
    no_turn q e = let l = r.history_inv.nodes (length r.history.ends) q e in let k = rest_ok q.node l.0 l.1 in ⊎_elim (idle k.0 k.1) (rolled k.0 k.1) k.2
      where
        idle : (v : ArrayGhost) → NodeInv key r.history q.node v → v.own.point ≡ Idle → ⊥
        idle v ok i = let open_at = ok.last_request.last_open (length r.history.ends) q e refl (omega arith) in let h = (ok.last_request.idle i open_at.0).0 in let o = open_at.1 in omega arith

        rolled : (v : ArrayGhost) → NodeInv key r.history q.node v → v.own.point ≡ Rolled → ⊥
        rolled v ok i = let m : r.history.marks (length r.history.ends) ≡ q.node = ap r.history.marks (ok.last_request.last_open (length r.history.ends) q e refl (omega arith)).1 ∙ ok.marks.rolled i in let z = (r.history_inv.nobody nobody).1 in
            let low = (r.history_inv.nodes (length r.history.ends) q e).0 in omega arith

    all_ended : length r.history.ends ≡ length r.history.order
    all_ended = let le = r.history_inv.legal.ended in dite (ℕ_discrete (length r.history.ends) (length r.history.order)) (λ e. e)
        (λ ne. let q = element_at r.history.order (length r.history.ends) (omega arith) in absurd (no_turn q.0 q.1))

    pub finishes : (y : Payload) × (get_elem? s.homes (slot_layout.home_slot (length r.history.ends)) ≡ some (some y)) × IsFinalLine good allows key.config (views_of entries) y.bytes.bytes
    finishes = let y = r.shown.home nobody in (
      y.0,
      y.1,
      record {
        may_open = r.may_open;
        once = once_map (λ (e : ArrayGhost). e.view) entries (once_each node_of key.config.nodes r.who r.owner s.views r.members id entries at);
        history = one_history good allows key r.history r.history_inv (map (λ (e : ArrayGhost). e.view) entries) among;
        config_is = refl;
        all_ended = all_ended;
        kept = r.history_inv.kept;
        result = y.2;
        is_good = subst good (sym y.2) r.history_inv.sound;
      },
    )
      where
        ok : (i : ℕ) (v : ArrayGhost) → At entries i v → NodeInv key r.history v.view.node v
        ok i v e = let m = r.members id i entries v at e in subst (NodeInv key r.history v.view.node) m.is (r.each v.view.node m.low m.high)

        among : (v : View) → IsAmong (map (λ (e : ArrayGhost). e.view) entries) v → (n : ℕ) × (e : ArrayGhost) × (e.view ≡ v) × NodeInv key r.history n e
        among v i = let p = among_map_port (λ (e : ArrayGhost). e.view) entries v i in (p.1.view.node, p.1, sym p.3, ok p.0 p.1 p.2)

  pub final_line : (last : List ℕ → ℕ) → ((words : List ℕ) (n : ℕ) → slice_index words ticket_at ≡ ticket_of n → last words ≡ slot_layout.home_slot n) → (id : ℕ) (words : List ℕ) (xs : List Payload) → Final (λ s. Rule s × (get_elem? s.views id ≡ some entries)) words xs → (y : Payload) × (get_elem? xs (last words) ≡ some y) × IsFinalLine good allows key.config (views_of entries) y.bytes.bytes
  final_line last is_last id words xs f = let s = f.0 in let h = f.1 in let r = h.0 in let t = finishes id s r h.1 in
      let same : last words ≡ slot_layout.home_slot (length r.history.ends) = is_last words (length r.history.ends) (subst (λ ws. slice_index ws ticket_at ≡ ticket_of (length r.history.ends)) f.2 (r.shown.ticket ∙ ap ticket_of (sym (all_ended id s r h.1)))) in
      (t.0, subst (λ k. get_elem? xs k ≡ some t.0) (sym same) (f.4 (slot_layout.home_slot (length r.history.ends)) t.0 t.1), t.2)
