use Rattle.qolb_nodes.proofs.Telling.{closed}
use Rattle.qolb_nodes.proofs.qolb_close_proved_.Goals as goal

pub returns : goal.returns
returns c = closed _ _ _ _ c.number.ensures c.close.ensures
