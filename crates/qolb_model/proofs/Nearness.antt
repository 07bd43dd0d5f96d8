-- Lemmas about how many requests end before a node's own request.
use Rattle.std.proofs.Common.{◌≡◌, ℕ, ◌+◌, ◌<◌, ◌≤◌, List, ◌∷◌, [], length, drop, Some, slice_get, sym, ap, ◌∙◌, arith, length-drop}
use Rattle.std.proofs.lemmas.Option.{slice_get_within}
use Rattle.qolb_model.specs.declared.request.Request.{Request}
use Rattle.qolb_model.specs.declared.view.View.{View}
use Rattle.qolb_model.specs.declared.write.Write.{Write}
use Rattle.qolb_model.specs.Views.{own, Extends}
use Rattle.qolb_model.specs.OneHistory.{OneHistory}
use Rattle.qolb_model.specs.AtTurn.{IsQueued, IsGranted}
use Rattle.qolb_model.specs.Requests.{last_of}
use Rattle.qolb_model.specs.OneOwner.{OwnerState}
use Rattle.qolb_model.specs.Plain.{IsReached}
use Rattle.qolb_model.proofs.Lists.{at_drop}
use Rattle.qolb_model.proofs.Counts.{few_if_once, count_once}
use Rattle.qolb_model.proofs.Prefixes.{prefix_get}
use Rattle.qolb_model.proofs.Requests.{same_place}
use Rattle.qolb_model.proofs.Agreeing.{among_first}

-- the request that waited is the one at its turn, at the same place
pub few_turns : (asked later : View) (turn : Write) → IsQueued asked → Extends asked later → later.count ≡ asked.count → OneHistory (later ∷ []) → IsGranted later turn
    → length later.ends < length asked.ends + asked.config.nodes
few_turns asked later turn waits on same h granted =
    let place = waits.waits.0 in
    let at = waits.waits.2 in
    let knows = h.known later (among_first later []) in
    let mine : own asked ≡ own later = λ i. record { node = sym on.node i; number = sym same i } in
    let here : slice_get h.order place ≡ Some (own later) =
    prefix_get later.order h.order place (own later) knows.order_begins (prefix_get asked.order later.order place (own asked) on.order at ∙ ap Some mine) in
    let turned : slice_get h.order (length later.ends) ≡ Some (own later) = prefix_get later.order h.order (length later.ends) (own later) knows.order_begins granted.at_turn in
    let one : place ≡ length later.ends = same_place h.order h.legal.numbered place (length later.ends) (own later) here turned in
    let near = waits.near in
    omega (arith, slice_get_within asked.order place (own asked) at)

-- the open requests of a line with one owner
module _ (s : OwnerState) (reached : IsReached s) where
  abbrev opens : List Request
  opens = drop (length s.queue.ends) s.queue.order

  there : (p : ℕ) (r : Request) → slice_get opens p ≡ Some r → slice_get s.queue.order (length s.queue.ends + p) ≡ Some r
  there = at_drop (length s.queue.ends) s.queue.order

  of_nodes : (p : ℕ) (r : Request) → slice_get opens p ≡ Some r → (0 < r.node) × (r.node ≤ s.config.nodes)
  of_nodes p r at = let known = reached.nodes_known (length s.queue.ends + p) r (there p r at) in (omega arith, known.1)

  -- each open request is its node's last, so two of one node are the same
  one_open : (k i j : ℕ) (r t : Request) → slice_get opens i ≡ Some r → slice_get opens j ≡ Some t → r.node ≡ k → t.node ≡ k → i ≡ j
  one_open k i j r t at at' mine mine' =
      let last = reached.last_open (length s.queue.ends + i) r (omega arith) (there i r at) in
      let last' = reached.last_open (length s.queue.ends + j) t (omega arith) (there j t at') in
      let same : t ≡ r = last' ∙ (ap (λ (n : ℕ). last_of n s.queue.order) (mine' ∙ sym mine) ∙ sym last) in
      let place = same_place s.queue.order reached.legal.numbered (length s.queue.ends + i) (length s.queue.ends + j) r (there i r at) (there j t at' ∙ ap Some same) in
      omega arith

  pub few_wait : length s.queue.order ≤ length s.queue.ends + s.config.nodes
  few_wait =
      let few = few_if_once s.config.nodes opens of_nodes (λ k _ _. count_once k opens (one_open k)) in
      let d = length-drop (length s.queue.ends) s.queue.order in
      let i = reached.legal.ended in
      omega arith
