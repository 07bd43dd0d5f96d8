use Rattle.std.proofs.Common.{[]}
use Rattle.qolb_draw.specs.Pictures.{line_text}
use Rattle.qolb_draw.proofs.Outs.{line_found}
use Rattle.qolb_draw.proofs.Pushing.{piece_pushed}
use Rattle.qolb_draw.proofs.draw.picture.Goals as goal

pub loop-number-preserved : goal.loop-number-preserved
loop-number-preserved g c = piece_pushed (line_text c.args.schedule.now) [] c.loop-number.number c.loop-number.text.items c.push_line.new.text.items _ c.loop-number.invariant (line_found c.args.schedule.now c.loop-number.number _ _ _ _ _ c.in_ok-grid.ensures.grid) c.in_ok-push_line.ensures
