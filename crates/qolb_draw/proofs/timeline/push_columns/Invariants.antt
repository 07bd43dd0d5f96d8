use Rattle.std.proofs.Common.{◌≡◌, ◌++◌, get_or}
use Rattle.std.specs.List.{flat_map, range_with_len}
use Rattle.qolb_draw.specs.Svg.{texts}
use Rattle.qolb_draw.specs.Timelines.{column_shapes, no_event}
use Rattle.qolb_draw.proofs.timeline.push_columns.Given as goal

abbrev pub invariant-loop-column : goal.invariant-loop-column
invariant-loop-column g l = l.svg.items ≡ l.fn.svg.items ++ flat_map (λ k. texts (column_shapes l.shown k (get_or l.events k no_event))) (range_with_len 0 l.column)
