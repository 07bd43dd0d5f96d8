-- The counters of a port, which record how many atomic steps and polls its calls have taken.
use Rattle.std.specs.Prelude.{◌≡◌, ◌+◌, ◌*◌, ◌≤◌, ℕ, Bool}
use Rattle.qolb_model.specs.declared.answer.Enq.{Enq}
use Rattle.qolb_model.specs.declared.answer.Poll.{Poll}
use Rattle.qolb_model.specs.declared.answer.Out.{Out}
use Rattle.qolb_model.specs.declared.view.View.{View}

-- the atomic steps of a port's last call, the atomic steps of all its calls, and its polls
pub record Counters : Type 0 where
  pub steps : ℕ
  pub total_steps : ℕ
  pub poll_count : ℕ

-- a call of a port, with its answer
pub data Call : Type 0 where
  asks : (answer : Enq) → Call
  polls : (answer : Poll) → Call
  withdraws : (answer : Out) → Call
  looks_if_clear : (clear : Bool) → Call
  releases : Call

-- the number of a port's polls after a call: each poll counts, and no other call does
abbrev pub polls_after : Call → ℕ → ℕ
polls_after (asks answer) count = count
polls_after (polls answer) count = count + 1
polls_after (withdraws answer) count = count
polls_after (looks_if_clear clear) count = count
polls_after releases count = count

-- a port's counters after a call: they count the atomic steps of the call, which are as many as its kind of line says,
-- and at most the maximum
pub record Counts (call_steps : Call → View → View → ℕ → Type 0) (max_steps : ℕ) (call : Call) (before after : View) (old new : Counters)
    : Type 0 where
  pub within : call_steps call before after new.steps
  pub bound : new.steps ≤ max_steps
  pub total_steps : new.total_steps ≡ old.total_steps + new.steps
  pub poll_count : new.poll_count ≡ polls_after call old.poll_count

-- since `old`, the port was polled some number of times, and has taken no more atomic steps than these polls and
-- `others` more calls may take
pub record IsWithinCalls (max_steps others : ℕ) (old new : Counters) : Type 0 where
  pub polls : ℕ
  pub poll_count : new.poll_count ≡ old.poll_count + polls
  pub total_steps : new.total_steps ≤ old.total_steps + (polls + others) * max_steps
