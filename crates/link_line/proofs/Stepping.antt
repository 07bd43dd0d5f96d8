-- Lemmas which combine several consecutive atomic steps of a node into one.
use Rattle.std.proofs.Common.{ℕ, ◌+◌, ◌∙◌, List, sym, ap, arith}
use Rattle.qolb_model.proofs.Agreeing.{extends_trans}
use Rattle.qolb_model.proofs.Going.{extends_self}
use Rattle.qolb_model.specs.declared.config.LineConfig.{LineConfig}
use Rattle.atomic_table.specs.Seated.{TableId}
use Rattle.link_line.specs.Steps.{SeatContents, LinkSeat, IsOfOneNode, single, Advances, SeatAdvances, IsOwnNode, IsSeatOfNode}

-- no step, and some after others
pub goes_none : (allows : List ℕ → List ℕ → Type 0) (m : SeatContents) → IsOfOneNode m → Advances allows m m 0
goes_none allows m of_one_node = record { of_one_node = of_one_node; extends = extends_self (single m.0).view; continues = λ u before. before; steps = omega arith }

pub goes_trans : (allows : List ℕ → List ℕ → Type 0) (a b c : SeatContents) (i j : ℕ) → Advances allows a b i → Advances allows b c j → Advances allows a c (i + j)
goes_trans allows a b c i j f g = record {
  of_one_node = g.of_one_node;
  extends = extends_trans (single a.0).view (single b.0).view (single c.0).view f.extends g.extends;
  continues = λ u before. g.continues u (f.continues u before);
  steps = omega (arith, f.steps, g.steps);
}

-- a seat stays that of its node
pub own_goes : {allows : List ℕ → List ℕ → Type 0} {nodes node i : ℕ} (s t : LinkSeat) → Advances allows s.me t.me i → IsOwnNode nodes node s → IsOwnNode nodes node t
own_goes s t advances own = (own.0 ∙ sym advances.extends.node, own.1, own.2, ap (λ (t : LineConfig). t.nodes) advances.extends.config ∙ own.3)

pub seat_goes : {allows : List ℕ → List ℕ → Type 0} {table_id : TableId} {nodes node i : ℕ} (s t : LinkSeat) → SeatAdvances allows s t i → IsSeatOfNode nodes table_id node s → IsSeatOfNode nodes table_id node t
seat_goes s t advances seat = ((advances.seat.0 ∙ seat.0.0, seat.0.1, seat.0.2), own_goes s t advances.advances seat.1)
