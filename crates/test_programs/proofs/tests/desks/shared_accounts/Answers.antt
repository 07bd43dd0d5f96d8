use Rattle.test_programs.proofs.NewPorts.{no_money}
use Rattle.test_programs.proofs.tests.desks.shared_accounts.Goals as goal

pub open_zeros-requires : goal.open_zeros-requires
open_zeros-requires g c = no_money
