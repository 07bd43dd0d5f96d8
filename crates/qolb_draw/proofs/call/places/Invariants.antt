use Rattle.std.proofs.Common.{◌≡◌}
use Rattle.std.specs.List.{flat_map, range_with_len}
use Rattle.qolb_draw.specs.Shapes.{place_if}
use Rattle.qolb_draw.proofs.call.places.Given as goal

abbrev pub invariant-loop-place : goal.invariant-loop-place
invariant-loop-place g l = l.places.items ≡ flat_map (place_if l.mask.0) (range_with_len 0 l.place)
