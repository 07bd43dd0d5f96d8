use Rattle.std.proofs.Common.{arith}
use Rattle.link_core.specs.Progress.{steps_left}
use Rattle.link_core.proofs.Sums.{sum_more}
use Rattle.link_core.proofs.state.State.rank.Goals as goal

pub loop-before-preserved : goal.loop-before-preserved
loop-before-preserved c = record {
  few = omega arith;
  summed = let e = sum_more c.loop-before.before (steps_left c.args.self.now) in omega arith;
}
