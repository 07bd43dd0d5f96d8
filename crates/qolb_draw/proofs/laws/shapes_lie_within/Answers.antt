use Rattle.qolb_draw.proofs.Within.{shapes_lie_within}
use Rattle.qolb_draw.proofs.laws.shapes_lie_within.Goals as goal

pub returns : goal.returns
returns c = shapes_lie_within
