use Rattle.std.proofs.Common.{◌≡◌, ◌++◌, map, take}
use Rattle.qolb_draw.specs.Heads.{digit_at}
use Rattle.qolb_draw.proofs.heads.push_head.Given as goal

abbrev pub invariant-loop-number : goal.invariant-loop-number
invariant-loop-number g l = l.text.items ≡ l.fn.text.items ++ (l.margin ++ map (digit_at l.value) (take l.number-index l.numbers))
