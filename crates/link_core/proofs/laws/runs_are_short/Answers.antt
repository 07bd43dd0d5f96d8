use Rattle.link_core.proofs.Paths.{run_short}
use Rattle.link_core.proofs.laws.runs_are_short.Goals as goal

pub returns : goal.returns
returns k config es c q few long run = run_short few long run
