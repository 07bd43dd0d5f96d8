use Rattle.link_core.proofs.Sound.{sound_fits}
use Rattle.link_core.proofs.Steady.{sound_after, keeps_after}
use Rattle.link_core.proofs.machine.Core.step.Goals as goal

pub apply-requires : goal.apply-requires
apply-requires c = record { fits = sound_fits _ c.self.invariant }

pub invariant_of-self : goal.invariant_of-self
invariant_of-self c = sound_after c.self.inside.state c.apply.new.self c.args.event c.apply.result c.self.invariant c.apply.ensures.step c.apply.ensures.unchanged

pub returns-clause-shows : goal.returns-clause-shows
returns-clause-shows c = rw (← c.self.view_is) (keeps_after c.self.inside.state c.apply.new.self c.args.event c.apply.result c.self.invariant c.apply.ensures.step)
