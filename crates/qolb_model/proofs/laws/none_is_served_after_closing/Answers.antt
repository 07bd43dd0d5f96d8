use Rattle.std.proofs.Common.{take, subst}
use Rattle.qolb_model.specs.Ends.{MayEnd}
use Rattle.qolb_model.specs.Leases.{is_last_turn}
use Rattle.qolb_model.proofs.Writes.{not_served}
use Rattle.qolb_model.proofs.laws.none_is_served_after_closing.Goals as goal

pub returns : goal.returns
returns c = λ lease order ends legal p e at shut. not_served (is_last_turn lease (take p ends)) e (subst (λ b. MayEnd b (is_last_turn lease (take p ends)) e) shut (legal.closing p e at))
