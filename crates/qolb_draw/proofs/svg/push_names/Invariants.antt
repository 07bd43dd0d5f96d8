use Rattle.std.proofs.Common.{◌≡◌, ◌++◌, ◌*◌}
use Rattle.std.specs.List.{flat_map, range_with_len}
use Rattle.qolb_draw.specs.declared.svg.TheConstants.{NAMED_EVERY}
use Rattle.qolb_draw.specs.Svg.{name_text}
use Rattle.qolb_draw.proofs.svg.push_names.Given as goal

abbrev pub invariant-loop-count : goal.invariant-loop-count
invariant-loop-count g l = l.svg.items ≡ l.fn.svg.items ++ flat_map (λ k. name_text l.scale l.row (NAMED_EVERY * k) l.node) (range_with_len 0 l.count)
