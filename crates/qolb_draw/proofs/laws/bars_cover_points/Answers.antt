use Rattle.qolb_draw.proofs.StepCovering.{bars_cover_points}
use Rattle.qolb_draw.proofs.laws.bars_cover_points.Goals as goal

pub returns : goal.returns
returns c = bars_cover_points
