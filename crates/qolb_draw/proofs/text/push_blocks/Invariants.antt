use Rattle.std.proofs.Common.{◌≡◌, ◌++◌, ◌*◌, ◌-◌, min, length}
use Rattle.std.specs.List.{flat_map, range_with_len}
use Rattle.qolb_draw.specs.declared.text.TheConstants.{COLUMNS}
use Rattle.qolb_draw.specs.Grids.{block_out_of}
use Rattle.qolb_draw.proofs.text.push_blocks.Given as goal

abbrev pub invariant-loop-block : goal.invariant-loop-block
invariant-loop-block g l = l.text.items ≡ l.fn.text.items ++ flat_map (λ k. block_out_of l.grid.nodes l.grid.marks.items l.grid.numbers.items l.shown (COLUMNS * k) (min COLUMNS (length l.grid.numbers.items - COLUMNS * k))) (range_with_len 0 l.block)
