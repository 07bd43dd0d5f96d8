use Rattle.std.proofs.Common.{◌≡◌, length}
use Rattle.qolb_model.specs.Plain.{PlainView, Agrees}
use Rattle.qolb_script.specs.Reply.{replay_start}
use Rattle.qolb_replay.specs.Tallies.{AreLinesOf}
use Rattle.qolb_replay.proofs.replay.open_lines.Given as goal

abbrev pub invariant-loop : goal.invariant-loop
invariant-loop g l = record {
  opened : AreLinesOf Agrees (λ (x : PlainView). x.nodes) l.config.nodes (replay_start l.config l.counter) l.all.items;
  many : length l.all.items ≡ l.counter;
}
