-- Defines the phase of a node between two calls, for each state of the node's port. This file also defines how many
-- atomic steps each call takes.
use Rattle.std.specs.Prelude.{◌≡◌, ◌≢◌, ℕ, ◌+◌, ◌*◌, [], length, Option}
use Rattle.qolb_model.specs.declared.answer.PortState.{PortState}
use Rattle.qolb_model.specs.declared.answer.PortState.TheVariants as port_state
use Rattle.qolb_model.specs.declared.answer.Enq.{Enq}
use Rattle.qolb_model.specs.declared.answer.Enq.TheVariants as enq
use Rattle.qolb_model.specs.declared.view.View.{View}
use Rattle.line_generic.specs.declared.table.Payload.{Payload}
use Rattle.line_generic.specs.Slots.{Slots}
use Rattle.line_generic.specs.PortPhases.{PortPhases}
use Rattle.line_cells.specs.Layout.{cell_at, cell_of}
use Rattle.line_cells.specs.declared.local.Point.TheVariants.{Idle, Queued, Holding, Rolled}
use Rattle.line_cells.specs.declared.local.Local.{Local}

-- the word on which a node waits: the cell of its token, among the cells that a line of n nodes has
abbrev pub wait_word : (ℕ → ℕ) → ℕ → ℕ → ℕ → ℕ
wait_word cells nodes node token = cell_at (cell_of (cells nodes) token)

-- a new node has no request
abbrev pub initial : Local
initial = record { point = Idle; place = 0; passed = [] }

-- A port stores a token of its last request. The token depends on that request's place in the order: it is the
-- request's cell, for example, or its ticket.
module _ (token_of : ℕ → ℕ) where
  -- the phase of a node that does not hold the line, by its port's state and token; no port is ever Left or Linking
  abbrev pub in_state : ℕ → PortState → ℕ → Local → Type 0
  in_state nodes port_state.Idle token own = own.point ≡ Idle
  in_state nodes port_state.Linking token own = ⊥
  in_state nodes port_state.Queued token own = (own.point ≡ Queued) × (token ≡ token_of own.place)
  in_state nodes port_state.Holding token own = ⊥
  in_state nodes port_state.Left token own = ⊥
  in_state nodes port_state.Rolled token own = own.point ≡ Rolled
  in_state nodes port_state.Shut token own = own.point ≡ Idle

  -- the node has the line and has passed no request; its token belongs to the place at its turn
  abbrev pub holds_open : ℕ → ℕ → Local → Type 0
  holds_open token ended own = (own.point ≡ Holding) × (own.passed ≡ []) × (token ≡ token_of ended)

  -- a closed line reaches a node as an open one does
  abbrev pub holds_closed : ℕ → View → Local → Payload → Type 0
  holds_closed token view own y = holds_open token (length view.ends) own

  -- the phases, with the slots that a node has in each
  abbrev pub phases : (ℕ → ℕ → Payload → Slots → Type 0) → (ℕ → ℕ → Option ℕ → Slots → Type 0) → (ℕ → ℕ → Payload → Slots → Type 0) → PortPhases Local
  phases slots_at_grant slots_in_turn slots_at_release = record { initial = initial; in_state = in_state; holds_open = holds_open; holds_closed = holds_closed; slots_at_grant = slots_at_grant; slots_in_turn = slots_in_turn; slots_at_release = slots_at_release }

  -- the word of the turn is the cell of the token that belongs to the place at its turn
  abbrev pub wake_word : (ℕ → ℕ) → View → ℕ
  wake_word cells view = wait_word cells view.config.nodes view.node (token_of (length view.ends))

-- no request is linked, and no line is left in a mailbox
abbrev pub allowed_states : PortState → Type 0
allowed_states state = (state ≢ port_state.Left) × (state ≢ port_state.Linking)

-- a request takes a ticket and loads its cell; after a withdrawal, two earlier steps reset the node's word
abbrev pub requests_in : PortState → ℕ → Type 0
requests_in state steps = (state ≢ port_state.Rolled → steps ≡ 2) × (state ≡ port_state.Rolled → steps ≡ 4)

-- a node that may not make a request learns so in one step; a request that forwards a closed line may take any number
-- of steps
abbrev pub enqueue_steps : PortState → Enq → ℕ → Type 0
enqueue_steps state enq.Granted steps = requests_in state steps
enqueue_steps state enq.Queued steps = requests_in state steps
enqueue_steps state enq.Closed steps = Unit {0}
enqueue_steps state enq.Busy steps = steps ≡ 1

-- a release takes `each` atomic steps for each end that it makes
module _ (each : ℕ) where
  -- the steps of a release: `each` for each end, less one
  abbrev pub release_steps : ℕ → ℕ → ℕ → Type 0
  release_steps before after steps = steps + 1 + each * before ≡ each * after

  -- the most steps of a poll, and of a release
  abbrev pub max_steps : ℕ → ℕ
  max_steps nodes = each * nodes
