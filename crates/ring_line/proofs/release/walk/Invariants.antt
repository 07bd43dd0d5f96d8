use Rattle.std.proofs.Common.{◌-◌, length}
use Rattle.qolb_model.specs.declared.config.TheConstants.{MAX_NODES}
use Rattle.ring_line.proofs.Walking.{IsWalking}
use Rattle.ring_line.proofs.release.walk.Given as goal

abbrev pub invariant-loop-passed : goal.invariant-loop-passed
invariant-loop-passed g l = IsWalking g.K.Keep.allows l.initial.seat l.passed.items l.cell l.found l.seat

abbrev pub decreases-loop-passed : goal.decreases-loop-passed
decreases-loop-passed g l = MAX_NODES - length l.passed.items
