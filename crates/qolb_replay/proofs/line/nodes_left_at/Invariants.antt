use Rattle.std.proofs.Common.{◌≡◌, ◌<◌, ◌-◌}
use Rattle.qolb_model.specs.OneOwner.{OwnerState}
use Rattle.qolb_script.specs.Reply.{nodes_left}
use Rattle.qolb_replay.proofs.line.nodes_left_at.Given as goal

abbrev pub invariant-loop-node : goal.invariant-loop-node
invariant-loop-node g l = record {
  few : l.left < l.node;
  counted : (s : OwnerState) → g.R.ReplayLine.represents l.line s → l.left ≡ nodes_left (l.node - 1) s;
}
