-- Lemmas about how a node's seat changes with each atomic step. A seat is a node's access to the line's table.
use Rattle.std.proofs.Common.{◌≡◌, ℕ, ◌+◌, List, [], ◌∷◌, sym, refl, subst, arith}
use Rattle.qolb_model.specs.Views.{Extends}
use Rattle.qolb_model.specs.Sound.{Continues}
use Rattle.qolb_model.proofs.Agreeing.{extends_trans}
use Rattle.qolb_model.proofs.Going.{extends_self, continues_on}
use Rattle.line_generic.specs.declared.table.Payload.{Payload}
use Rattle.line_cells.specs.Steps.{SeatContents, IsOfOneNode, single, Advances, after_reset}
use Rattle.line_cells.specs.Array.{ArrayGhost}

-- one step, which is counted
pub goes_step : (allows : List ℕ → List ℕ → Type 0) (m : SeatContents) (v w : ArrayGhost) (slots : List (ℕ × Payload)) → m.0 ≡ v ∷ [] → Continues allows v.view w.view → w.steps ≡ v.steps + 1 → Advances allows m (w ∷ [], slots) 1
goes_step allows m v w slots is c n = record {
  of_one_node = refl;
  extends = subst (λ u. Extends (single u).view w.view) (sym is) c.extends;
  continues = λ u before. continues_on allows u v.view w.view (subst (λ z. Continues allows u (single z).view) is before).extends c;
  steps = subst (λ u. w.steps ≡ (single u).steps + 1) (sym is) n;
}

-- no step, and one after others
pub goes_none : (allows : List ℕ → List ℕ → Type 0) (m : SeatContents) → IsOfOneNode m → Advances allows m m 0
goes_none allows m of_one_node = record { of_one_node = of_one_node; extends = extends_self (single m.0).view; continues = λ u before. before; steps = omega arith }

pub goes_trans : (allows : List ℕ → List ℕ → Type 0) (a b c : SeatContents) (i j : ℕ) → Advances allows a b i → Advances allows b c j → Advances allows a c (i + j)
goes_trans allows a b c i j f g = record {
  of_one_node = g.of_one_node;
  extends = extends_trans (single a.0).view (single b.0).view (single c.0).view f.extends g.extends;
  continues = λ u before. g.continues u (f.continues u before);
  steps = omega (arith, f.steps, g.steps);
}

-- a step by which the node learns nothing
pub goes_same : (allows : List ℕ → List ℕ → Type 0) (a : SeatContents) (w : ArrayGhost) → w.view ≡ (single a.0).view → w.steps ≡ (single a.0).steps + 1 → Advances allows a (w ∷ [], a.1) 1
goes_same allows a w same n = record {
  of_one_node = refl;
  extends = subst (Extends (single a.0).view) (sym same) (extends_self (single a.0).view);
  continues = λ u before. subst (Continues allows u) (sym same) before;
  steps = n;
}

-- the step that clears the node's own word
pub goes_reset : (allows : List ℕ → List ℕ → Type 0) (a b : SeatContents) → b ≡ (after_reset (single a.0) ∷ [], a.1) → Advances allows a b 1
goes_reset allows a b is = subst (λ m. Advances allows a m 1) (sym is) (goes_same allows a (after_reset (single a.0)) refl refl)
