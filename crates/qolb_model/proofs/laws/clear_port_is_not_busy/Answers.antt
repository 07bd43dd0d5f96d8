use Rattle.std.proofs.Common.{refl}
use Rattle.qolb_model.proofs.Going.{clear_not_busy}
use Rattle.qolb_model.proofs.laws.clear_port_is_not_busy.Goals as goal

pub returns : goal.returns
returns g c = λ old clear new turn answer looked asked is. clear_not_busy clear new asked.continues.extends (looked.clear refl) (asked.busy is)
