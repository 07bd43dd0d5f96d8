use Rattle.qolb_work.proofs.BoardTurns.{then_stored, then_full, then_put_again, then_put_told}
use Rattle.qolb_work.proofs.board.put_at_last.Goals as goal

pub returns-in-Stored-clause-stored : goal.returns-in-Stored-clause-stored
returns-in-Stored-clause-stored g c =
    λ _. then_stored _ _ _ _ c.loop.invariant.1 (g.met.L.LineSync.sound c.args.line.now c.loop.port c.loop.invariant.0).own_history _ c.put.ensures.puts c.in-Stored.is

pub returns-in-Full-clause-full : goal.returns-in-Full-clause-full
returns-in-Full-clause-full g c =
    λ _. then_full _ _ _ _ c.loop.invariant.1 (g.met.L.LineSync.sound c.args.line.now c.loop.port c.loop.invariant.0).own_history _ c.put.ensures.puts c.in-Full.is

pub loop-preserved : goal.loop-preserved
loop-preserved g c = (
  c.put.ensures.belongs,
  then_put_again _ _ _ _ c.loop.invariant.1 (g.met.L.LineSync.sound c.args.line.now c.loop.port c.loop.invariant.0).own_history _ c.put.ensures.puts c.in-Late.is,
)

pub returns-in-Closed-clause-told : goal.returns-in-Closed-clause-told
returns-in-Closed-clause-told g c =
    then_put_told _ _ _ _ c.loop.invariant.1 (g.met.L.LineSync.sound c.args.line.now c.loop.port c.loop.invariant.0).own_history _ c.put.ensures.puts c.in-Closed.is
