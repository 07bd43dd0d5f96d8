-- The part of the invariant that concerns a single node, for a seat that contains only this node.
use Rattle.std.proofs.Common.{◌≡◌, ℕ, ◌<◌, ◌≤◌, List, [], ◌∷◌, sym, refl, subst}
use mathlib.Core.Option.{some}
use lib.ListN.{get_elem?}
use Rattle.atomic_table.specs.Table.{State}
use Rattle.link_core.specs.State.{IsNode}
use Rattle.line_generic.specs.declared.table.Payload.{Payload}
use Rattle.line_generic.specs.declared.table.TableKey.{TableKey}
use Rattle.link_line.specs.Ghost.{LinkGhost}
use Rattle.link_line.specs.Links.{NodeInv, LinkRule}

module _ (good : List ℕ → Type 0) (allows : List ℕ → List ℕ → Type 0) (key : TableKey) where
  abbrev pub St : Type 0
  St = State Payload (List LinkGhost)

  abbrev pub Rule : St → Type 0
  Rule = LinkRule good allows key

  pub low : (s : St) (r : Rule s) (me : ℕ) (v : LinkGhost) → get_elem? s.views me ≡ some (v ∷ []) → (0 < v.view.node) × (v.view.node ≤ key.config.nodes)
  low s r me v at = let m = r.members me 0 (v ∷ []) v at refl in (m.low, m.high)

  -- the part of the invariant that is about the seat's own node
  pub mine_ok : (s : St) (r : Rule s) (me : ℕ) (v : LinkGhost) → get_elem? s.views me ≡ some (v ∷ []) → NodeInv key r.history v.view.node v
  mine_ok s r me v at = let m = r.members me 0 (v ∷ []) v at refl in subst (NodeInv key r.history v.view.node) m.is (r.each v.view.node m.low m.high)

  pub is_node : (s : St) (r : Rule s) (me : ℕ) (v : LinkGhost) → get_elem? s.views me ≡ some (v ∷ []) → IsNode r.history.core v.view.node
  is_node s r me v at = let l = low s r me v at in (l.0, subst (λ (q : ℕ). v.view.node ≤ q) (sym r.history_inv.shown.matches.size) l.1)
