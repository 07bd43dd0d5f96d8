use Rattle.link_core.proofs.Found.{runs_move}
use Rattle.link_core.proofs.laws.runs_move.Goals as goal

pub returns : goal.returns
returns k config es c q r = runs_move r
