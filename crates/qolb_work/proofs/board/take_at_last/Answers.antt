use Rattle.qolb_work.proofs.BoardTurns.{then_taken, then_none, then_take_again, then_take_told}
use Rattle.qolb_work.proofs.board.take_at_last.Goals as goal

pub returns-in-Task-clause-taken : goal.returns-in-Task-clause-taken
returns-in-Task-clause-taken g c =
    λ _. then_taken _ _ _ c.loop.invariant.1 (g.met.L.LineSync.sound c.args.line.now c.loop.port c.loop.invariant.0).own_history _ c.take.ensures.takes _ c.in-Task.is

pub returns-in-Empty-clause-empty : goal.returns-in-Empty-clause-empty
returns-in-Empty-clause-empty g c =
    λ _. then_none _ _ _ c.loop.invariant.1 (g.met.L.LineSync.sound c.args.line.now c.loop.port c.loop.invariant.0).own_history _ c.take.ensures.takes c.in-Empty.is

pub loop-preserved : goal.loop-preserved
loop-preserved g c = (
  c.take.ensures.belongs,
  then_take_again _ _ _ c.loop.invariant.1 (g.met.L.LineSync.sound c.args.line.now c.loop.port c.loop.invariant.0).own_history _ c.take.ensures.takes c.in-Late.is,
)

pub returns-in-Closed-clause-told : goal.returns-in-Closed-clause-told
returns-in-Closed-clause-told g c =
    then_take_told _ _ _ c.loop.invariant.1 (g.met.L.LineSync.sound c.args.line.now c.loop.port c.loop.invariant.0).own_history _ c.take.ensures.takes c.in-Closed.is
