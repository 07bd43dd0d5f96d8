use Rattle.std.proofs.Common.{◌≡◌, ◌*◌, ◌≤◌}
use Rattle.link_core.specs.Progress.{steps_left, sum_over}
use Rattle.link_core.proofs.state.State.rank.Given as goal

abbrev pub invariant-loop-before : goal.invariant-loop-before
invariant-loop-before l = record {
  few : l.total ≤ 5 * l.before;
  summed : l.total ≡ sum_over l.before (steps_left l.self);
}
