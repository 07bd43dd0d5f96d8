use Rattle.std.proofs.Common.{◌-◌, length}
use Rattle.qolb_model.specs.declared.config.TheConstants.{MAX_NODES}
use Rattle.ticket_line.proofs.Walking.{IsWalking}
use Rattle.ticket_line.proofs.release.walk.Given as goal

abbrev pub invariant-loop-node : goal.invariant-loop-node
invariant-loop-node g l = IsWalking l.table.key.config.nodes g.K.Keep.allows l.initial.seat l.passed.items l.ticket l.node l.seat

abbrev pub decreases-loop-node : goal.decreases-loop-node
decreases-loop-node g l = MAX_NODES - length l.passed.items
