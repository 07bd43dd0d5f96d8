use Rattle.std.proofs.Common.{◌≡◌, ◌≤◌}
use Rattle.qolb_replay.specs.StepRuns.{nodes_busy}
use Rattle.qolb_replay.proofs.steps.nodes_left.Given as goal

abbrev pub invariant-loop-before : goal.invariant-loop-before
invariant-loop-before l = record {
  few : l.left ≤ l.before;
  counted : l.left ≡ nodes_busy l.before l.core;
}
