use Rattle.qolb_model.proofs.Agreeing.{same_bytes}
use Rattle.qolb_model.proofs.laws.same_ends_same_bytes.Goals as goal

pub returns : goal.returns
returns c = same_bytes
