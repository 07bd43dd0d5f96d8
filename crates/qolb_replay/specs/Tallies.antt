-- A line in a replay, and the counts of the answers that the line has given.
use Rattle.std.specs.Prelude.{◌≡◌, ℕ, ◌+◌, ◌<◌, ◌≤◌, Bool, if◌then◌else◌, List, length}
use Rattle.std.specs.List.{slice_index_or}
use Rattle.qolb_model.specs.OneOwner.{OwnerState}
use Rattle.qolb_script.specs.declared.command.Command.{Command}
use Rattle.qolb_script.specs.declared.reply_text.Said.{Said}
use Rattle.qolb_script.specs.Reply.{Replay, line_at, said_of, after_command, times_said, is_served, is_withdrawn, is_told}
use Rattle.qolb_replay.specs.declared.line.Counts.{Counts}
use Rattle.qolb_replay.specs.declared.line.CountingLine.{CountingLine}

-- 1 if the test passes, and 0 otherwise
abbrev pub one_if : Bool → ℕ
one_if test = if test then 1 else 0

-- one more answer was counted
pub record Counted (what : Said) (old new : Counts) : Type 0 where
  pub served : new.served ≡ old.served + one_if (is_served what)
  pub withdrawn : new.withdrawn ≡ old.withdrawn + one_if (is_withdrawn what)
  pub told : new.told ≡ old.told + one_if (is_told what)

-- no count exceeds n
pub record AreWithin (n : ℕ) (counts : Counts) : Type 0 where
  pub served : counts.served ≤ n
  pub withdrawn : counts.withdrawn ≤ n
  pub told : counts.told ≤ n

-- counts that are all 0
abbrev pub no_counts : Counts
no_counts = record { served = 0; withdrawn = 0; told = 0 }

-- These definitions hold for lines of any kind. They need the state of a line with one owner that each line represents,
-- and its number of nodes.
module _ {R : Type 0} (represents : R → OwnerState → Type 0) (nodes_of : R → ℕ) where
  -- the line executed a command, gave this answer, and counted the answer
  pub record Does (c : Command) (what : Said) (old new : CountingLine R) : Type 0 where
    pub said : (s : OwnerState) → represents old.line s → what ≡ said_of s c
    pub agrees : (s : OwnerState) → represents old.line s → represents new.line (after_command s c)
    pub nodes : nodes_of new.line ≡ nodes_of old.line
    pub counted : Counted what old.counts new.counts

  -- this is line number `number` of the replay
  pub record IsLineOf (nodes : ℕ) (r : Replay) (number : ℕ) (t : CountingLine R) : Type 0 where
    pub nodes_are : nodes_of t.line ≡ nodes
    pub agrees : represents t.line (line_at r.lines number)
    pub served_are : t.counts.served ≡ times_said is_served number r.said
    pub withdrawn_are : t.counts.withdrawn ≡ times_said is_withdrawn number r.said
    pub told_are : t.counts.told ≡ times_said is_told number r.said

  -- these are the lines of the replay
  pub record AreLinesOf (nodes : ℕ) (r : Replay) (lines : List (CountingLine R)) : Type 0 where
    pub len : length lines ≡ length r.lines
    pub each : (number : ℕ) (d : CountingLine R) → number < length lines → IsLineOf nodes r number (slice_index_or lines number d)
