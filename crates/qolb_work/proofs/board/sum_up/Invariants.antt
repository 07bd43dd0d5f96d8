use Rattle.std.proofs.Common.{take}
use Rattle.qolb_work.specs.BoardWork.{AreSums}
use Rattle.qolb_work.proofs.board.sum_up.Given as goal

abbrev pub invariant-loop-hand : goal.invariant-loop-hand
invariant-loop-hand g l = AreSums (take l.hand-index l.hands) l.all
