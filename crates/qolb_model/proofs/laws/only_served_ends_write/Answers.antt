use Rattle.qolb_model.proofs.Writes.{bytes_after-served}
use Rattle.qolb_model.proofs.laws.only_served_ends_write.Goals as goal

pub returns : goal.returns
returns c = bytes_after-served
