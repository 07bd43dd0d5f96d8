-- The phases in which a node can be between two calls, and the slots that the node has in each phase.
use Rattle.std.specs.Prelude.{ℕ, Option}
use Rattle.qolb_model.specs.declared.answer.PortState.{PortState}
use Rattle.qolb_model.specs.declared.view.View.{View}
use Rattle.line_generic.specs.declared.table.Payload.{Payload}
use Rattle.line_generic.specs.Slots.{Slots}

-- What a discipline says of a node, in terms of the token of its port and the discipline's own ghost state.
pub record PortPhases (O : Type 0) : Type 1 where
  -- the ghost state of a new node
  pub initial : O
  -- `in_state nodes state token local` says that a port of this node is in `state`, which is not `Holding`
  pub in_state : ℕ → PortState → ℕ → O → Type 0
  -- `holds_open token ends local` says that the node holds the open line, and that `ends` requests have ended
  pub holds_open : ℕ → ℕ → O → Type 0
  -- `holds_closed token view local payload` says that the line reached the node closed
  pub holds_closed : ℕ → View → O → Payload → Type 0
  -- `slots_at_grant nodes token payload slots` says that the line was granted to the node, and is in these slots
  pub slots_at_grant : ℕ → ℕ → Payload → Slots → Type 0
  -- `slots_in_turn nodes token turns_left slots` says that a holder has these slots
  pub slots_in_turn : ℕ → ℕ → Option ℕ → Slots → Type 0
  -- `slots_at_release nodes token payload slots` says that the node is about to release, has stored the payload for its
  -- successor, and has these slots
  pub slots_at_release : ℕ → ℕ → Payload → Slots → Type 0
