use Rattle.std.proofs.Common.{List}
use Rattle.link_core.specs.declared.state.TheConstants.{PLACES}
use Rattle.link_core.specs.State.{NodeCall, unused, first}
use Rattle.link_core.proofs.Open.{all_same}
use Rattle.std.proofs.Common.{ap}
use Rattle.link_core.proofs.state.State.opened.Goals as goal

pub returns : goal.returns
returns c = ap (λ (ss : List NodeCall). record (first c.args.config) { seats = ss }) (all_same c.default-seats.result unused PLACES c.default-seats.ensures.long c.default-seats.ensures.at)
