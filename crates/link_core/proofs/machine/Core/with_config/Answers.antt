use Rattle.std.proofs.Common.{rules}
use Rattle.link_core.proofs.Steady.{first_sound, first_shows}
use Rattle.link_core.proofs.machine.Core.with_config.Goals as goal

pub invariant_of-result : goal.invariant_of-result
invariant_of-result c = rw c.opened-state.ensures (first_sound c.args.config (search rules) c.in-Ok.ensures.nodes.few)

pub returns-in-Ok-clause-shows : goal.returns-in-Ok-clause-shows
returns-in-Ok-clause-shows c = rw c.opened-state.ensures (first_shows c.args.config (search rules))
