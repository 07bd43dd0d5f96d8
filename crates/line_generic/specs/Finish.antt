-- What holds when a line is finished. No port then has an open request, and the seats of all ports (their access to the
-- line's table) are joined into one.
use Rattle.std.specs.Prelude.{◌≡◌, ℕ, List, ◌++◌, map, true, slice_get, Some}
use Rattle.std.specs.List.{All}
use Rattle.atomic_table.specs.Seated.{TableId}
use Rattle.qolb_model.specs.declared.answer.PortState.{PortState}
use Rattle.qolb_model.specs.PortStates.{may_ask}
use Rattle.line_generic.specs.declared.table.NodeGhost.{NodeGhost}
use Rattle.line_generic.specs.NodeGhosts.{LineSeat, AtRest, views_of}
use Rattle.line_generic.specs.Ports.{PortModel}

-- the seat has the ghost states of these ports' nodes, each at rest
pub record IsGathered {O : Type 0} (in_state : ℕ → PortState → ℕ → O → Type 0) (table_id : TableId) (ports : List PortModel) (whole : LineSeat O) : Type 0 where
  pub table : whole.table_id ≡ table_id
  pub views : views_of whole.me.0 ≡ map (λ (p : PortModel). p.view) ports
  pub at_rest : (i : ℕ) (e : NodeGhost O) → slice_get whole.me.0 i ≡ Some e → AtRest in_state e

-- the seat has the ghost states of some of the ports' nodes, and the other seats must still be joined
pub record HasJoinedSome {O : Type 0} (in_state : ℕ → PortState → ℕ → O → Type 0) (table_id : TableId) (ports rest : List PortModel) (whole : LineSeat O) : Type 0 where
  pub table : whole.table_id ≡ table_id
  pub views : views_of whole.me.0 ++ map (λ (p : PortModel). p.view) rest ≡ map (λ (p : PortModel). p.view) ports
  pub at_rest : (i : ℕ) (e : NodeGhost O) → slice_get whole.me.0 i ≡ Some e → AtRest in_state e
  pub tables : All (λ (p : PortModel). p.table ≡ table_id) rest
  pub quiet : All (λ (p : PortModel). may_ask p.view.state ≡ true) rest
