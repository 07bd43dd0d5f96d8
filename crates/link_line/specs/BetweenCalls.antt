-- Defines the phase of a node between two calls, for each state of the node's port.
use Rattle.std.specs.Prelude.{◌≡◌, ℕ, ◌+◌, ◌-◌, ◌*◌, ◌≤◌, List, [], Option, Some, None, if◌then◌else◌}
use Rattle.qolb_model.specs.declared.answer.PortState.{PortState}
use Rattle.qolb_model.specs.declared.answer.PortState.TheVariants as port_state
use Rattle.qolb_model.specs.declared.answer.Enq.{Enq}
use Rattle.qolb_model.specs.declared.answer.Enq.TheVariants as enq
use Rattle.qolb_model.specs.declared.view.View.{View}
use Rattle.qolb_model.specs.declared.request.Request.{Request}
use Rattle.qolb_model.specs.Requests.{has}
use Rattle.qolb_model.specs.Histories.{turn_of}
use Rattle.link_core.specs.declared.point.Point.TheVariants.{Idle, Linking, Queued, Holding, Leaving, Left, Rolled, Shut}
use Rattle.link_core.specs.State.{unused}
use Rattle.line_generic.specs.declared.table.Payload.{Payload}
use Rattle.line_generic.specs.Slots.{in_single_slot, open_in_single_slot}
use Rattle.line_generic.specs.PortPhases.{PortPhases}
use Rattle.link_line.specs.declared.local.LinkLocal.{LinkLocal}
use Rattle.link_line.specs.Ghost.{no_line}
use Rattle.link_line.specs.Layout.{home_at, entry_at, IsWithin}

-- a new node
abbrev pub initial : LinkLocal
initial = record { seat = unused; passed = []; line = no_line }

-- the phase of a node that does not hold the line, by its port's state; the token of a linking node is the
-- predecessor's node
abbrev pub in_state : ℕ → PortState → ℕ → LinkLocal → Type 0
in_state nodes port_state.Idle token own = own.seat.point ≡ Idle
in_state nodes port_state.Linking token own = (own.seat.point ≡ Linking token) × IsWithin nodes token
in_state nodes port_state.Queued token own = own.seat.point ≡ Queued
in_state nodes port_state.Holding token own = ⊥
in_state nodes port_state.Left token own = own.seat.point ≡ Left
in_state nodes port_state.Rolled token own = own.seat.point ≡ Rolled
in_state nodes port_state.Shut token own = own.seat.point ≡ Shut

-- a node that holds the open line
abbrev pub holds_open : ℕ → ℕ → LinkLocal → Type 0
holds_open token ended own = (own.seat.point ≡ Holding) × (own.passed ≡ [])

-- a node that the closed line reached is at once in a release of it
abbrev pub holds_closed : ℕ → View → LinkLocal → Payload → Type 0
holds_closed token view own y = (own.seat.point ≡ Leaving view.node) × (own.line ≡ y) × (own.passed ≡ [])

-- the phases, with one slot for all turns
abbrev pub phases : PortPhases LinkLocal
phases = record { initial = initial; in_state = in_state; holds_open = holds_open; holds_closed = holds_closed; slots_at_grant = λ _. in_single_slot; slots_in_turn = λ _. open_in_single_slot; slots_at_release = λ _. in_single_slot }

-- a node waits on its own entry, once it is linked to its predecessor's
abbrev pub wait_word : ℕ → ℕ → ℕ → ℕ
wait_word nodes node token = entry_at node

-- the word of a request is the entry of its node, or the home word if no request is known to be joined
abbrev pub word_of : List Request → Option Request → ℕ
word_of joined (Some r) = if has joined r then entry_at r.node else home_at
word_of joined None = home_at

-- the word of the turn is that of the request at its turn
abbrev pub wake_word : View → ℕ
wake_word v = word_of v.joined (turn_of v.order v.ends)

-- a port may be in each state
abbrev pub allowed_states : PortState → Type 0
allowed_states state = Unit {0}

-- the number of atomic steps to make a request, by the port's state
abbrev pub steps_to_ask : PortState → ℕ
steps_to_ask port_state.Left = 3
steps_to_ask port_state.Rolled = 3
steps_to_ask _ = 2

-- the number of atomic steps to enqueue: a request that waits has been linked, by one step more
abbrev pub enqueue_steps : PortState → Enq → ℕ → Type 0
enqueue_steps state enq.Busy steps = steps ≡ 1
enqueue_steps state enq.Queued steps = steps ≡ steps_to_ask state + 1
enqueue_steps state enq.Granted steps = steps ≤ steps_to_ask state + 1
enqueue_steps state enq.Closed steps = Unit {0}

-- A release that made after - before ends took four atomic steps for each, less one to three. For each withdrawn
-- request that it passed it took home, done, grant and freed; for the last end it took home, or home and done, or home,
-- done and grant.
abbrev pub release_steps : ℕ → ℕ → ℕ → Type 0
release_steps before after steps = (4 * after ≤ 4 * before + steps + 3) × (steps + 1 + 4 * before ≤ 4 * after)

-- the most steps of a poll, with the release of a closed line that it finds
abbrev pub max_steps : ℕ → ℕ
max_steps nodes = 4 * nodes - 2
