use Rattle.qolb_model.proofs.Agreeing.{fewer_ends_begin}
use Rattle.qolb_model.proofs.laws.fewer_ends_begin.Goals as goal

pub returns : goal.returns
returns c = fewer_ends_begin
