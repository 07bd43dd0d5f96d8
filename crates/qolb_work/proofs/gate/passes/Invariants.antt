use Rattle.std.proofs.Common.{◌<◌}
use Rattle.qolb_work.proofs.gate.passes.Given as goal

abbrev pub invariant-loop-refusals : goal.invariant-loop-refusals
invariant-loop-refusals g l = 0 < l._refusals → g.G.Gate.may_refuse l.gate l.worker
