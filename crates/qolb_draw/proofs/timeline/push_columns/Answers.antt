use Rattle.std.proofs.Common.{get_or, ap}
use Rattle.std.proofs.lemmas.List.{get_or_default}
use Rattle.qolb_draw.specs.Svg.{texts}
use Rattle.qolb_draw.specs.Timelines.{column_shapes, no_event}
use Rattle.qolb_draw.proofs.Pushing.{piece_pushed}
use Rattle.qolb_draw.proofs.timeline.push_columns.Goals as goal

pub loop-column-preserved : goal.loop-column-preserved
loop-column-preserved g c =
    piece_pushed (λ k. texts (column_shapes c.args.shown.now k (get_or c.args.events.now k no_event))) c.args.svg.now.items c.loop-column.column c.loop-column.svg.items c.push_column.new.svg.items _ c.loop-column.invariant
    (ap (λ e. texts (column_shapes c.args.shown.now c.loop-column.column e)) (get_or_default _ _ _ no_event c.loop-column-test.true)) c.in_ok-push_column.ensures
