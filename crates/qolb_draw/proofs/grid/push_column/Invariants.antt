use Rattle.std.proofs.Common.{◌≡◌, ◌≤◌, ◌++◌, ◌-◌, get_or, length, map}
use Rattle.std.specs.List.{range_with_len}
use Rattle.qolb_model.specs.declared.answer.PortState.TheVariants as port
use Rattle.qolb_draw.specs.Marks.{mark_of}
use Rattle.qolb_draw.proofs.grid.push_column.Given as goal

abbrev pub invariant-loop-node : goal.invariant-loop-node
invariant-loop-node g l = record {
  marks_are : l.marks.items ≡ l.fn.marks.items ++ map (λ n. mark_of l.change (get_or l.states n port.Idle) n) (range_with_len 1 (l.node - 1));
  within : l.node - 1 ≤ length l.states - 1;
}
