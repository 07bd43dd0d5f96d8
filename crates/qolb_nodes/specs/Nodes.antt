-- What callers can see of a node: its line, and its port on that line. The kind of the line makes no difference. The
-- definitions in this file were made for this project; none is taken from the literature.
use Rattle.std.specs.Prelude.{◌≡◌, ℕ, ◌+◌, ◌*◌, ◌%◌, ◌^◌, ◌<◌, ◌≤◌, List, Option, Some, None}
use Rattle.line_lanes.specs.Lane.{lane_of, with_lane_of}
use Rattle.line_lanes.specs.Mask.{placed_mask}
use Rattle.qolb_model.specs.declared.answer.Poll.{Poll}
use Rattle.qolb_model.specs.declared.answer.Poll.TheVariants.{Waiting}
use Rattle.qolb_model.specs.declared.write.Write.{Write}
use Rattle.qolb_model.specs.Counting.{Counters}
use Rattle.qolb_model.specs.OneOwner.{turn_after}

-- the node's line, and its port of that line
pub record NodeOf (Line Port : Type 0) : Type 0 where
  pub line : Line
  pub port : Port

-- the data invariant of these lines: any bytes are good, and a turn may make any change
abbrev pub any_bytes : List ℕ → Type 0
any_bytes bytes = Unit {0}

abbrev pub anything : List ℕ → List ℕ → Type 0
anything old new = Unit {0}

-- the counters of a port after one call of the line that does not poll: the call took at most `max` atomic steps, and
-- they are counted
pub record IsOneCall (max : ℕ) (old new : Counters) : Type 0 where
  pub bound : new.steps ≤ max
  pub total_steps : new.total_steps ≡ old.total_steps + new.steps
  pub poll_count : new.poll_count ≡ old.poll_count

-- A call that may poll `polls` times. By its port's counts before and after, it polled at least once and at most that
-- often, and exactly that often if its request still waits.
pub record PollsWithin (polls was now : ℕ) (answer : Poll) : Type 0 where
  pub some : was < now
  pub at_most : now ≤ was + polls
  pub all : answer ≡ Waiting → now ≡ was + polls

-- a turn after `value` is written to lane k, and after `by` is added to it modulo 2^64. A lane is written by a write of
-- its bytes.
abbrev pub with_lane : Write → ℕ → ℕ → Write
with_lane turn k value = turn_after turn (placed_mask (8 * k) 8) (with_lane_of turn.bytes.bytes k value)

abbrev pub with_added : Write → ℕ → ℕ → Write
with_added turn k by = with_lane turn k ((lane_of turn.bytes.bytes k + by) % 2 ^ 64)

-- C's number of the turns left of a lease, or 2^64 - 1 if there is no lease
abbrev pub turns_number : Option ℕ → ℕ
turns_number None = 0xffff_ffff_ffff_ffff
turns_number (Some turns) = turns
