use Rattle.qolb_draw.proofs.StepsWithin.{step_shapes_lie_within}
use Rattle.qolb_draw.proofs.laws.step_shapes_lie_within.Goals as goal

pub returns : goal.returns
returns c = step_shapes_lie_within
