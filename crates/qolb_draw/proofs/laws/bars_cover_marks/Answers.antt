use Rattle.qolb_draw.proofs.Covering.{bars_cover_marks}
use Rattle.qolb_draw.proofs.laws.bars_cover_marks.Goals as goal

pub returns : goal.returns
returns c = bars_cover_marks
