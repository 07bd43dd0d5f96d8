use Rattle.std.proofs.Common.{arith, ◌≡◌, ◌+◌, ◌-◌, ◌*◌, min, length, ap}
use Rattle.qolb_draw.specs.declared.text.TheConstants.{COLUMNS}
use Rattle.qolb_draw.specs.Grids.{block_out_of}
use Rattle.qolb_draw.proofs.Pushing.{piece_pushed}
use Rattle.qolb_draw.proofs.text.push_blocks.Goals as goal

pub loop-block-preserved : goal.loop-block-preserved
loop-block-preserved g c =
    let count : (COLUMNS * c.loop-block.block + c.min.result) - COLUMNS * c.loop-block.block ≡ min COLUMNS (length c.args.grid.now.numbers.items - COLUMNS * c.loop-block.block) = omega (arith, c.min.ensures) in
    piece_pushed (λ k. block_out_of c.args.grid.now.nodes c.args.grid.now.marks.items c.args.grid.now.numbers.items c.args.shown.now (COLUMNS * k) (min COLUMNS (length c.args.grid.now.numbers.items - COLUMNS * k))) c.args.text.now.items c.loop-block.block c.loop-block.text.items c.push_block.new.text.items _
    c.loop-block.invariant (ap (block_out_of c.args.grid.now.nodes c.args.grid.now.marks.items c.args.grid.now.numbers.items c.args.shown.now (COLUMNS * c.loop-block.block)) count) c.in_ok-push_block.ensures
