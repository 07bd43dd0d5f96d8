-- Lemmas about the phases in which a node can be between two calls, and about what each phase guarantees.
use Rattle.std.proofs.Common.{ℕ, ◌≡◌, ◌∙◌, length, refl, sym, ap}
use Rattle.qolb_model.specs.declared.answer.PortState.{PortState}
use Rattle.qolb_model.specs.declared.answer.PortState.TheVariants as port_state
use Rattle.line_cells.specs.declared.local.Local.{Local}
use Rattle.qolb_model.specs.declared.config.LineConfig.{LineConfig}
use Rattle.qolb_model.specs.declared.view.View.{View}
use Rattle.line_generic.specs.declared.table.Payload.{Payload}
use Rattle.line_generic.specs.AtTurn.{SeesTurn}
use Rattle.line_cells.specs.BetweenCalls.{initial, in_state, holds_open, holds_closed, allowed_states, wait_word, wake_word}

module _ (token_of : ℕ → ℕ) where
  pub starts_idle : (nodes : ℕ) → in_state token_of nodes port_state.Idle 0 initial
  starts_idle nodes = refl

  pub in_state_allowed : (nodes : ℕ) (state : PortState) (token : ℕ) (own : Local) → in_state token_of nodes state token own → allowed_states state
  in_state_allowed nodes port_state.Idle token own h = (λ e. cc e, λ e. cc e)
  in_state_allowed nodes port_state.Linking token own h = absurd h
  in_state_allowed nodes port_state.Queued token own h = (λ e. cc e, λ e. cc e)
  in_state_allowed nodes port_state.Holding token own h = absurd h
  in_state_allowed nodes port_state.Left token own h = absurd h
  in_state_allowed nodes port_state.Rolled token own h = (λ e. cc e, λ e. cc e)
  in_state_allowed nodes port_state.Shut token own h = (λ e. cc e, λ e. cc e)

  -- a node that has the line waited on the word of the turn, if it was granted open, and if closed
  pub holder_waits_there : (cells : ℕ → ℕ) (token : ℕ) (u v : View) (local : Local) → holds_open token_of token (length v.ends) local → SeesTurn u v → wait_word cells v.config.nodes v.node token ≡ wake_word token_of cells u
  holder_waits_there cells token u v local h sees =
      ap (wait_word cells v.config.nodes v.node) h.2 ∙ ap (λ (ended : ℕ). wait_word cells v.config.nodes v.node (token_of ended)) (sym sees.ended)
      ∙ ap (λ (t : LineConfig). wait_word cells t.nodes v.node (token_of (length u.ends))) (sym sees.config)

  pub closed_waits_there : (cells : ℕ → ℕ) (token : ℕ) (u v : View) (local : Local) (y : Payload) → holds_closed token_of token v local y → SeesTurn u v → wait_word cells v.config.nodes v.node token ≡ wake_word token_of cells u
  closed_waits_there cells token u v local y h = holder_waits_there cells token u v local h

pub holding_allowed : allowed_states port_state.Holding
holding_allowed = (λ e. cc e, λ e. cc e)
