use Rattle.std.proofs.Common.{◌≡◌, ◌<◌, ℕ, ◌+◌, ◌-◌, length, get_or, min}
use Rattle.line_lanes.specs.Lane.{lane_of}
use Rattle.line_board.proofs.board.decode.Given as goal

abbrev pub invariant-loop-k : goal.invariant-loop-k
invariant-loop-k l = record {
  counted : length l.tasks.items ≡ min (l.k - 1) l.count;
  each : (j : ℕ) → j < length l.tasks.items → get_or l.tasks.items j 0 ≡ lane_of l.line.bytes (j + 1);
  unused : (j : ℕ) → l.count < j → j < l.k → lane_of l.line.bytes j ≡ 0;
}
