use Rattle.qolb_model.proofs.Leases.{open_has_turns}
use Rattle.qolb_model.proofs.laws.open_line_has_turns.Goals as goal

pub returns : goal.returns
returns c = open_has_turns
