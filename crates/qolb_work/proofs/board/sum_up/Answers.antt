use Rattle.qolb_work.proofs.Summing.{sums_small}
use Rattle.qolb_work.proofs.board.sum_up.Goals as goal

pub add-requires-clause-mine : goal.add-requires-clause-mine
add-requires-clause-mine g c = sums_small c.args.hands.now c.loop-hand.hand-index c.loop-hand.all c.requires.hands c.requires.small c.loop-hand-test.true c.loop-hand.invariant
