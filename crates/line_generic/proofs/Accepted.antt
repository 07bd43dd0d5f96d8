-- Lemmas about a port whose turn came on a closed line. Such a port is notified that the line is closed, and has
-- forwarded the line to the next node.
use Rattle.std.proofs.Common.{◌≡◌, ◌≢◌, ℕ, List, ◌∙◌}
use Rattle.atomic_table.specs.Seated.{TableId}
use Rattle.qolb_model.specs.declared.answer.PortState.{PortState}
use Rattle.qolb_model.specs.declared.answer.PortState.TheVariants as port_state
use Rattle.qolb_model.proofs.Going.{continues_sound, sound_goes}
use Rattle.line_generic.specs.declared.table.LocalCopy.{LocalCopy}
use Rattle.line_generic.specs.declared.table.TableKey.{TableKey}
use Rattle.line_generic.specs.NodeGhosts.{LineSeat}
use Rattle.line_generic.specs.PortPhases.{PortPhases}
use Rattle.line_generic.specs.Steps.{ghost_of, SeatAdvances}
use Rattle.line_generic.specs.Ports.{IsPort, IsForwarded, IsSeated}

-- the port's fields are as they are between calls
pub passed_port : {O : Type 0} {allows : List ℕ → List ℕ → Type 0} {q : PortPhases O} {s t : LineSeat O} {n : ℕ} (label node token : ℕ) (z : LocalCopy) (state : PortState)
    → (ghost_of q.initial s).view.label ≡ label → (ghost_of q.initial s).view.node ≡ node → SeatAdvances allows q.initial s t n → IsForwarded q t state × (state ≢ port_state.Holding)
    → IsPort q label node t z token state
passed_port {t = t} label node token z state label_is node_is advances told = let r = told.0.0 token in record {
  of_one_node = advances.advances.of_one_node;
  rests_so = λ not. (r.stands, r.slot);
  holds_so = λ is. absurd (told.1 is);
  shows_state = r.shows_state;
  label_is = advances.advances.extends.label ∙ label_is;
  node_is = advances.advances.extends.node ∙ node_is;
}

-- a seat that goes on is that of the same node
pub seated_goes : {O : Type 0} {good : List ℕ → Type 0} {allows : List ℕ → List ℕ → Type 0} {key : TableKey} {table_id : TableId} {initial : O} {node : ℕ} {s t : LineSeat O} {n : ℕ}
    → IsSeated good allows key table_id initial node s → SeatAdvances allows initial s t n → IsSeated good allows key table_id initial node t
seated_goes {good = good} {allows = allows} {key = key} {initial = initial} {s = s} {t = t} it advances =
    let v = (ghost_of initial s).view in
    record {
      of_one_node = advances.advances.of_one_node;
      node_is = advances.advances.extends.node ∙ it.node_is;
      table_is = advances.seat.0 ∙ it.table_is;
      sound = sound_goes good allows key.label key.config v (ghost_of initial t).view it.sound (advances.advances.continues v (continues_sound good allows key.label key.config v it.sound));
    }
