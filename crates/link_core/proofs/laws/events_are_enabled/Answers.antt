use Rattle.link_core.proofs.Cases.{step_allowed}
use Rattle.link_core.proofs.laws.events_are_enabled.Goals as goal

pub returns : goal.returns
returns k c d e t p = step_allowed c p
