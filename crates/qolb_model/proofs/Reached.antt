-- Proof that each call of a single owner leads from a reachable state to a reachable state.
use Rattle.std.proofs.Common.{◌≡◌, ℕ, ◌≤◌, Bool, true, false, List, map, refl, ◌∙◌}
use Rattle.qolb_model.specs.declared.answer.Poll.{Poll}
use Rattle.qolb_model.specs.declared.answer.Poll.TheVariants as poll
use Rattle.qolb_model.specs.declared.answer.PortState.TheVariants as port
use Rattle.qolb_model.specs.Requests.{has, last_of}
use Rattle.qolb_model.specs.Ends.{is_closed}
use Rattle.qolb_model.specs.Leases.{turns_left}
use Rattle.qolb_model.specs.Histories.{open_of}
use Rattle.qolb_model.specs.OneOwner.{OwnerState, is_first, is_open, state_of, poll_answer, after_poll, after_ask, after_moves, mark_last, after_release, after_write}
use Rattle.qolb_model.specs.Plain.{PlainView, IsReached, waiter_of, Agrees}
use Rattle.qolb_model.proofs.Agreed.{when_queued, when_holding, node_state-state_of, not_both}
use Rattle.qolb_model.proofs.Steps.{agrees_write, agrees_ask, resting_ask, looks, releases, agrees_mark}

-- the plain line of a state
abbrev pub plain_of : OwnerState → PlainView
plain_of s = record { nodes = s.config.nodes; waiting = map (waiter_of s.queue.marked) (open_of s.queue.order s.queue.ends); granted = s.granted; closed = is_closed s.queue.ends; left = turns_left s.config.lease s.queue.ends; turn = s.turn }

module _ (s : OwnerState) (reached : IsReached s) where
  agrees : Agrees (plain_of s) s
  agrees = record { nodes = refl; waiting = refl; granted = refl; closed = refl; left = refl; turn = refl; reached = reached }

  -- what a node's state says of its last request
  pub queued_is : (n : ℕ) → state_of s n ≡ port.Queued → (is_open s.queue n ≡ true) × (has s.queue.marked (last_of n s.queue.order) ≡ false) × (is_first s.queue n ≡ true → s.granted ≡ false)
  queued_is n e = let h = when_queued (plain_of s) s agrees n (node_state-state_of (plain_of s) s agrees n ∙ e) in (h.0, h.1, not_both s.granted (is_first s.queue n) h.2)

  pub holding_is : (n : ℕ) → state_of s n ≡ port.Holding → (s.granted ≡ true) × (is_first s.queue n ≡ true)
  holding_is n e = let h = when_holding (plain_of s) s agrees n (node_state-state_of (plain_of s) s agrees n ∙ e) in (h.1, h.2)

  pub reached_write : (mask : ℕ) (bytes : List ℕ) → s.granted ≡ true → IsReached (after_write s mask bytes)
  reached_write mask bytes holds = (agrees_write (plain_of s) s mask bytes agrees holds).reached

  pub reached_poll : (n : ℕ) (p : Poll) → poll_answer s n ≡ p → (is_first s.queue n ≡ true → s.granted ≡ false) → IsReached (after_poll p s)
  reached_poll n poll.Granted is rest = (looks (plain_of s) s n poll.Granted agrees is rest).1.reached
  reached_poll n poll.Waiting is rest = reached
  reached_poll n poll.Closed is rest = (looks (plain_of s) s n poll.Closed agrees is rest).1.reached

  pub reached_release : (n : ℕ) (shut : Bool) → s.granted ≡ true → is_first s.queue n ≡ true → IsReached (after_release s shut)
  reached_release n shut holds first = (releases (plain_of s) s n shut agrees holds first).1.reached

  pub reached_mark : (n : ℕ) → is_open s.queue n ≡ true → has s.queue.marked (last_of n s.queue.order) ≡ false → is_first s.queue n ≡ false → IsReached (after_moves (mark_last s n) s)
  reached_mark n stands unmarked later = (agrees_mark (plain_of s) s n agrees stands unmarked later).reached

  pub reached_asked : (n : ℕ) → 1 ≤ n → n ≤ s.config.nodes → is_open s.queue n ≡ false → IsReached (after_ask s n) × (is_first (after_ask s n).queue n ≡ true → s.granted ≡ false)
  reached_asked n low high quiet = ((agrees_ask (plain_of s) s n agrees low high quiet).reached, resting_ask (plain_of s) s n agrees low high quiet)
