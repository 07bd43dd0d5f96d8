use Rattle.std.proofs.Common.{◌≡◌, ◌∷◌, [], ◌++◌, ◌-◌, take, drop}
use Rattle.std.specs.List.{flat_map}
use Rattle.qolb_draw.specs.Heads.{heads_text}
use Rattle.qolb_draw.specs.Pictures.{label_room}
use Rattle.qolb_draw.specs.Grids.{row_out_of}
use Rattle.qolb_draw.proofs.text.push_block.Given as goal

abbrev pub invariant-loop-node : goal.invariant-loop-node
invariant-loop-node g l = l.text.items ≡ l.fn.text.items ++ (10 ∷ [] ++ heads_text label_room (take (l.end - l.start) (drop l.start l.grid.numbers.items)) ++ flat_map (row_out_of l.grid.nodes l.grid.marks.items l.start (l.end - l.start)) (take l.node-index l.shown))
