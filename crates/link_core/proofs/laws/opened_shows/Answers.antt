use Rattle.std.proofs.Common.{arith}
use Rattle.link_core.proofs.Steady.{first_shows}
use Rattle.link_core.proofs.laws.opened_shows.Goals as goal

pub returns : goal.returns
returns c config few long = (record { entries = omega arith; seats = omega arith }, first_shows config long)
