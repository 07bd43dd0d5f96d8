use Rattle.std.proofs.Common.{take, None}
use Rattle.qolb_model.specs.Queue.{Queue}
use Rattle.qolb_model.specs.declared.config.LineConfig.{LineConfig}
use Rattle.link_core.specs.Shown.{Shows}
use Rattle.link_core.specs.Promise.{Run}
use Rattle.link_core.proofs.replaying.replay.Given as goal

abbrev pub invariant-loop-i : goal.invariant-loop-i
invariant-loop-i l = let config : LineConfig = record { nodes = l.fn.nodes; opening = l.fn.opening; lease = None } in (q : Queue) × Run config (take l.i l.events) l.core q × Shows config l.core q
