-- Lemmas about how a node's seat changes over several atomic steps. A seat is a node's access to the line's table.
use Rattle.std.proofs.Common.{◌≡◌, ℕ, ◌+◌, ◌-◌, ◌≤◌, List, sym, ◌∙◌, subst, arith}
use Rattle.qolb_model.specs.Views.{Extends}
use Rattle.qolb_model.specs.Sound.{Continues}
use Rattle.qolb_model.proofs.Agreeing.{extends_trans}
use Rattle.line_generic.specs.NodeGhosts.{SeatContents, LineSeat}
use Rattle.line_generic.specs.Steps.{IsSameSeat, single, Advances, SeatAdvances}

pub goes_trans : {O : Type 0} (allows : List ℕ → List ℕ → Type 0) (initial : O) (a b c : SeatContents O) (i j : ℕ) → Advances allows initial a b i → Advances allows initial b c j → Advances allows initial a c (i + j)
goes_trans allows initial a b c i j f g = record {
  of_one_node = g.of_one_node;
  extends = extends_trans (single initial a.0).view (single initial b.0).view (single initial c.0).view f.extends g.extends;
  continues = λ u before. g.continues u (f.continues u before);
  steps = omega (arith, f.steps, g.steps);
}

-- the contents of the slot do not matter
pub put_on : {O : Type 0} {allows : List ℕ → List ℕ → Type 0} {initial : O} {a b c : SeatContents O} {n : ℕ} → b.0 ≡ a.0 → Advances allows initial b c n → Advances allows initial a c n
put_on {O} {allows} {initial} {a} {b} {c} {n} same goes = record {
  of_one_node = goes.of_one_node;
  extends = subst (λ es. Extends (single initial es).view (single initial c.0).view) same goes.extends;
  continues = λ u before. goes.continues u (subst (λ es. Continues allows u (single initial es).view) (sym same) before);
  steps = subst (λ es. (single initial c.0).steps ≡ (single initial es).steps + n) same goes.steps;
}

-- the seat advances by some steps and then by more
pub then : {O : Type 0} {allows : List ℕ → List ℕ → Type 0} {initial : O} {s t u : LineSeat O} {i j : ℕ} → SeatAdvances allows initial s t i → SeatAdvances allows initial t u j → SeatAdvances allows initial s u (i + j)
then {allows = allows} {initial = initial} {s = s} {t = t} {u = u} {i = i} {j = j} a b = record {
  seat = (b.seat.0 ∙ a.seat.0, b.seat.1 ∙ a.seat.1);
  advances = goes_trans allows initial s.me t.me u.me i j a.advances b.advances;
}

-- the seat advances by some steps and then on to n steps in all
pub then_to : {O : Type 0} {allows : List ℕ → List ℕ → Type 0} {initial : O} {s t u : LineSeat O} {i j : ℕ} → SeatAdvances allows initial s t i → i ≤ j → SeatAdvances allows initial t u (j - i) → SeatAdvances allows initial s u j
then_to {allows = allows} {initial = initial} {s = s} {u = u} {i = i} {j = j} a more b = let e : i + (j - i) ≡ j = omega arith in subst (SeatAdvances allows initial s u) e (then a b)

-- what is put into the slot first does not matter
pub put_then : {O : Type 0} {allows : List ℕ → List ℕ → Type 0} {initial : O} {s t u : LineSeat O} {n : ℕ} → IsSameSeat s t × (t.me.0 ≡ s.me.0) → SeatAdvances allows initial t u n → SeatAdvances allows initial s u n
put_then put w = record { seat = (w.seat.0 ∙ put.0.0, w.seat.1 ∙ put.0.1); advances = put_on put.1 w.advances }
