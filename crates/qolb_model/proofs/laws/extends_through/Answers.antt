use Rattle.qolb_model.proofs.Agreeing.{extends_trans}
use Rattle.qolb_model.proofs.laws.extends_through.Goals as goal

pub returns : goal.returns
returns c = extends_trans
