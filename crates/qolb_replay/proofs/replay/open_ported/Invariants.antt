use Rattle.std.proofs.Common.{◌≡◌, List, length}
use Rattle.qolb_model.specs.OneOwner.{OwnerState}
use Rattle.qolb_model.specs.Whole.{ViewAndTurn, AreSynced}
use Rattle.qolb_script.specs.Reply.{replay_start}
use Rattle.qolb_replay.specs.Tallies.{AreLinesOf}
use Rattle.qolb_replay.proofs.replay.open_ported.Given as goal

abbrev pub invariant-loop-number : goal.invariant-loop-number
invariant-loop-number g l = record {
  opened : AreLinesOf (λ (ports : List ViewAndTurn) (s : OwnerState). AreSynced s ports) (λ (ports : List ViewAndTurn). length ports) l.config.nodes (replay_start l.config l.number) l.all.items;
  many : length l.all.items ≡ l.number;
}
