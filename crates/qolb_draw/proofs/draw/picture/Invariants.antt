use Rattle.std.proofs.Common.{◌≡◌}
use Rattle.std.specs.List.{flat_map, range_with_len}
use Rattle.qolb_draw.specs.Pictures.{line_text}
use Rattle.qolb_draw.proofs.draw.picture.Given as goal

abbrev pub invariant-loop-number : goal.invariant-loop-number
invariant-loop-number g l = l.text.items ≡ flat_map (line_text l.fn.schedule) (range_with_len 0 l.number)
