-- Proof that no two open requests belong to the same node. Therefore there are at most as many open requests as nodes.
use Rattle.qolb_model.specs.declared.config.LineConfig.{LineConfig}
use Rattle.std.proofs.Common.{◌≡◌, ℕ, suc, ◌+◌, ◌<◌, ◌≤◌, List, length, map, drop, sym, ◌∙◌, ap, subst, arith}
use Rattle.std.specs.Prelude.{slice_index_or}
use Rattle.std.proofs.lemmas.List.{get_or-drop, length-drop, length-map}
use Rattle.std.proofs.Math.ListN.{get_or-map}
use Rattle.qolb_model.specs.declared.request.Request.{Request}
use Rattle.qolb_model.specs.Queue.{Queue}
use Rattle.link_core.specs.Places.{nobody, requester_at, IsLast}
use Rattle.link_core.specs.State.{State}
use Rattle.link_core.specs.Shown.{Matches}
use Rattle.link_core.specs.Laws.{AreFew}
use Rattle.link_core.proofs.Orders.{last_once}
use Rattle.link_core.proofs.Short.{few}

module _ {config : LineConfig} {c : State} {q : Queue} (s : Matches config c q) where
  apart : (p i : ℕ) → length q.ends ≤ p → p < length q.order → length q.ends ≤ i → i < length q.order → requester_at q.order p ≡ requester_at q.order i → p ≡ i
  apart p i a l b k e = last_once q.order (requester_at q.order i) p i (subst (λ (m : ℕ). IsLast q.order m p) e (s.distinct p a l)) (s.distinct i b k)

  -- the nodes of the requests behind the one at its turn
  abbrev later : List ℕ
  later = map (λ (r : Request). r.node) (drop (suc (length q.ends)) q.order)

  later_at : (i : ℕ) → slice_index_or later i 0 ≡ requester_at q.order (suc (length q.ends) + i)
  later_at i = get_or-map (λ (r : Request). r.node) (drop (suc (length q.ends)) q.order) i nobody
      ∙ ap (λ (r : Request). r.node) (get_or-drop (suc (length q.ends)) q.order i nobody)

  later_long : length q.ends < length q.order → length later + suc (length q.ends) ≡ length q.order
  later_long l =
      let a = length-map (drop (suc (length q.ends)) q.order) (λ (r : Request). r.node) in
      let b = length-drop (suc (length q.ends)) q.order in
      omega arith

  few_later : length q.ends < length q.order → length later < c.nodes
  few_later l =
      let long = later_long l in
      let turn = s.nodes (length q.ends) l in
      few later (requester_at q.order (length q.ends)) c.nodes turn.1 turn.0
      (λ i b.
      let at = later_at i in
      let node = s.nodes (suc (length q.ends) + i) (omega arith) in
      (omega arith, omega arith, λ e. let k = apart (suc (length q.ends) + i) (length q.ends) (omega arith) (omega arith) (omega arith) l (sym at ∙ e) in omega arith))
      (λ i j b d e. let k = apart (suc (length q.ends) + i) (suc (length q.ends) + j) (omega arith) (omega arith) (omega arith) (omega arith) (sym (later_at i) ∙ e ∙ later_at j) in omega arith)

  pub are_few : AreFew c q
  are_few = record {
    apart = apart;
    near = λ p a l. let k = few_later (omega arith) in let long = later_long (omega arith) in omega arith;
  }
