use Rattle.qolb_model.proofs.Leases as leases
use Rattle.qolb_model.proofs.laws.lease_bounds.Goals as goal

pub returns : goal.returns
returns c = leases.lease_bounds
