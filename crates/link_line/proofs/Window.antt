-- Proof that a line never has more open requests than nodes.
use Rattle.std.proofs.Common.{◌≡◌, ℕ, ◌+◌, ◌<◌, ◌≤◌, Some, slice_get, length, drop, sym, ap, ◌∙◌, subst, arith, length-drop}
use Rattle.std.proofs.lemmas.Option.{slice_get_within}
use Rattle.qolb_model.specs.declared.request.Request.{Request}
use Rattle.qolb_model.specs.declared.config.LineConfig.{LineConfig}
use Rattle.qolb_model.specs.Requests.{count_of}
use Rattle.qolb_model.specs.Queue.{Queue}
use Rattle.qolb_model.proofs.Lists.{at_drop}
use Rattle.qolb_model.proofs.Counts.{few_if_once, count_once}
use Rattle.link_core.specs.declared.state.State.{State}
use Rattle.link_core.specs.Places.{requester_at, IsLast}
use Rattle.link_core.specs.Shown.{Shows}
use Rattle.link_core.proofs.Orders.{request_got, last_once}

module _ (config : LineConfig) (c : State) (q : Queue) (s : Shows config c q) where
  -- the request at a place of the open ones
  node_at : (p : ℕ) (r : Request) → slice_get q.order p ≡ Some r → requester_at q.order p ≡ r.node
  node_at p r at = ap (λ (z : Request). z.node) (request_got q.order p r at)

  nodes : (p : ℕ) (r : Request) → slice_get (drop (length q.ends) q.order) p ≡ Some r → (0 < r.node) × (r.node ≤ config.nodes)
  nodes p r at = let there = at_drop (length q.ends) q.order p r at in
      let i = s.matches.nodes (length q.ends + p) (slice_get_within q.order (length q.ends + p) r there) in
      let e = node_at (length q.ends + p) r there in let z = s.matches.size in (omega arith, omega arith)

  last_at : (k i : ℕ) (r : Request) → slice_get (drop (length q.ends) q.order) i ≡ Some r → r.node ≡ k → IsLast q.order k (length q.ends + i)
  last_at k i r at mine = let there = at_drop (length q.ends) q.order i r at in
      subst (λ (n : ℕ). IsLast q.order n (length q.ends + i)) (node_at (length q.ends + i) r there ∙ mine)
      (s.matches.distinct (length q.ends + i) (omega arith) (slice_get_within q.order (length q.ends + i) r there))

  once : (k : ℕ) → 0 < k → k ≤ config.nodes → count_of k (drop (length q.ends) q.order) ≤ 1
  once k a b = count_once k (drop (length q.ends) q.order) (λ i j r t at at' mine mine'. let e = last_once q.order k (length q.ends + i) (length q.ends + j) (last_at k i r at mine) (last_at k j t at' mine') in omega arith)

  window : length q.order ≤ length q.ends + config.nodes
  window = let few = few_if_once config.nodes (drop (length q.ends) q.order) nodes once in
      let d = length-drop (length q.ends) q.order in let i = s.matches.known in omega arith

  -- no more requests are open than a line with these terms has nodes
  pub few_open : (t : LineConfig) → t ≡ config → length q.order ≤ length q.ends + t.nodes
  few_open t is = subst (λ (z : LineConfig). length q.order ≤ length q.ends + z.nodes) (sym is) window
