-- Theorems about the phases of a node between two calls, the number of atomic steps that a call takes, and the word on
-- which the next holder waits.
use Rattle.std.proofs.Common.{◌≡◌, ◌^◌, ◌<◌, ◌≤◌, ℕ, Bool, Option, Some, None, if◌then◌else◌, length, refl, sym, ap, ◌∙◌, arith}
use Rattle.qolb_model.specs.declared.answer.PortState.{PortState}
use Rattle.qolb_model.specs.declared.answer.PortState.TheVariants as port_state
use Rattle.qolb_model.specs.declared.config.TheConstants.{MAX_NODES}
use Rattle.link_line.specs.declared.local.LinkLocal.{LinkLocal}
use Rattle.qolb_model.specs.declared.request.Request.{Request}
use Rattle.qolb_model.specs.declared.view.View.{View}
use Rattle.qolb_model.specs.Histories.{turn_of}
use Rattle.qolb_model.specs.Releasing.{SuccessorUnlinked}
use Rattle.qolb_model.specs.Requests.{Has}
use Rattle.qolb_model.specs.Views.{own}
use Rattle.line_generic.specs.declared.table.Payload.{Payload}
use Rattle.line_generic.specs.AtTurn.{SeesTurn}
use Rattle.link_line.specs.Layout.{home_at, entry_at}
use Rattle.link_line.specs.BetweenCalls.{initial, in_state, holds_open, holds_closed, allowed_states, max_steps, wait_word, word_of, wake_word}

pub starts_idle : (nodes : ℕ) → in_state nodes port_state.Idle 0 initial
starts_idle nodes = refl

pub in_state_allowed : (nodes : ℕ) (state : PortState) (token : ℕ) (own : LinkLocal) → in_state nodes state token own → allowed_states state
in_state_allowed nodes state token own so = tt

pub holding_allowed : allowed_states port_state.Holding
holding_allowed = tt

pub max_steps_positive : (nodes : ℕ) → 1 ≤ nodes → 1 ≤ max_steps nodes
max_steps_positive nodes some = omega arith

pub max_steps_fits : (nodes : ℕ) → nodes ≤ MAX_NODES → max_steps nodes < 2 ^ 32
max_steps_fits nodes few = omega arith

-- the word of the turn is the entry of the node whose joined request is at its turn
pub names_joined : (v : View) (r : Request) → turn_of v.order v.ends ≡ Some r → Has v.joined r → wake_word v ≡ entry_at r.node
names_joined v r turn joined = ap (word_of v.joined) turn ∙ ap (λ (b : Bool). if b then entry_at r.node else home_at) joined

-- the word of the turn is home if no request is at its turn, or one that is not joined
pub names_nobody : (v : View) → ((r : Request) → turn_of v.order v.ends ≡ Some r → ⊥) → wake_word v ≡ home_at
names_nobody v nobody = by (turn_of v.order v.ends) nobody
  where
    by : (o : Option Request) → ((r : Request) → o ≡ Some r → ⊥) → word_of v.joined o ≡ home_at
    by (Some r) nobody = absurd (nobody r refl)
    by None nobody = refl

pub names_short : (v : View) → SuccessorUnlinked v → wake_word v ≡ home_at
names_short v s = ap (word_of v.joined) s.1 ∙ ap (λ (b : Bool). if b then entry_at s.0.node else home_at) s.2

-- a node that has the line waited on the word of the turn, whether the line was granted open or closed
pub holder_waits_there : (token : ℕ) (u v : View) (local : LinkLocal) → holds_open token (length v.ends) local → SeesTurn u v → wait_word v.config.nodes v.node token ≡ wake_word u
holder_waits_there token u v local h sees = sym (names_joined u (own v) sees.turn sees.joined)

pub closed_waits_there : (token : ℕ) (u v : View) (local : LinkLocal) (y : Payload) → holds_closed token v local y → SeesTurn u v → wait_word v.config.nodes v.node token ≡ wake_word u
closed_waits_there token u v local y r sees = sym (names_joined u (own v) sees.turn sees.joined)
