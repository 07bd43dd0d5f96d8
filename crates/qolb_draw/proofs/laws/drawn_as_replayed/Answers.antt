use Rattle.qolb_draw.proofs.SameRuns.{drawn_as_replayed}
use Rattle.qolb_draw.proofs.laws.drawn_as_replayed.Goals as goal

pub returns : goal.returns
returns c = drawn_as_replayed
