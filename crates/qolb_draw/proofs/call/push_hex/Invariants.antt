use Rattle.std.proofs.Common.{◌≡◌, ◌++◌, take}
use Rattle.qolb_draw.specs.Svg.{hex_of}
use Rattle.qolb_draw.proofs.call.push_hex.Given as goal

abbrev pub invariant-loop-place : goal.invariant-loop-place
invariant-loop-place g l = l.text.items ≡ l.fn.text.items ++ hex_of l.bytes (take l.place-index l.places)
