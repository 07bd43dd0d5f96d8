-- Lemmas about lists in which a single element is replaced.
use Rattle.std.proofs.Common.{◌≡◌, ◌≢◌, ℕ, zero, suc, ◌<◌, ◌≤◌, List, [], ◌∷◌, set, sym, refl, ap, ◌∙◌, subst, ⊎_elim, Some, None}
use mathlib.Core.Option.{some}
use lib.ListN.{get_elem?}
use Rattle.atomic_table.proofs.Lists.{at_set}
use Rattle.qolb_model.specs.Entries.{Member, AreMembers}
use Rattle.qolb_model.proofs.Lists.{same_some}
use Rattle.qolb_model.proofs.Updates.{put, put_here, put_else}
use Rattle.link_line.specs.Ghost.{LinkGhost}
use Rattle.line_generic.specs.NodeGhosts.{node_of}
use Rattle.link_line.specs.Links.{At}

-- the seat `me` with the view v alone gets the view w of the same node
pub members_step : (nodes : ℕ) (who : ℕ → LinkGhost) (owner : ℕ → ℕ × ℕ) (views : List (List LinkGhost)) (me : ℕ) (v w : LinkGhost) → get_elem? views me ≡ some (v ∷ []) → w.view.node ≡ v.view.node
    → AreMembers node_of nodes who owner views → AreMembers node_of nodes (put who v.view.node w) owner (set views me (w ∷ []))
members_step nodes who owner views me v w at same all j i vs u there here = ⊎_elim
    (λ (t : (j ≡ me) × (w ∷ [] ≡ vs)). subst (λ (z : ℕ × List LinkGhost). At z.1 i u → Member node_of nodes (put who v.view.node w) owner z.0 i u) (λ c. (sym t.0 c, t.1 c)) (changed i u) here)
    (λ (t : (j ≢ me) × (get_elem? views j ≡ some vs)). let m = all j i vs u t.1 here in record {
      low = m.low;
      high = m.high;
      is = put_else who v.view.node w u.view.node (λ e. t.0 (ap (λ (z : ℕ × ℕ). z.0) (sym m.at ∙ ap owner e ∙ mine.at))) ∙ m.is;
      at = m.at;
    })
    (at_set views me j (w ∷ []) vs there)
  where
    mine : Member node_of nodes who owner me 0 v
    mine = all me 0 (v ∷ []) v at refl

    changed : (i : ℕ) (u : LinkGhost) → At (w ∷ []) i u → Member node_of nodes (put who v.view.node w) owner me i u
    changed zero u e = subst (Member node_of nodes (put who v.view.node w) owner me 0) (same_some e) record {
      low = subst (λ q. 0 < q) (sym same) mine.low;
      high = subst (λ q. q ≤ nodes) (sym same) mine.high;
      is = ap (put who v.view.node w) same ∙ put_here who v.view.node w;
      at = ap owner same ∙ mine.at;
    }
    changed (suc i) u e = let z : None ≡ Some u = e in cc z
