use Rattle.link_core.proofs.Steady.{step_shows}
use Rattle.link_core.proofs.Sound.{step_wide}
use Rattle.link_core.proofs.laws.each_event_keeps.Goals as goal

pub returns : goal.returns
returns k opening c d q e t w s p = (step_shows opening c q w s p, step_wide c w p)
