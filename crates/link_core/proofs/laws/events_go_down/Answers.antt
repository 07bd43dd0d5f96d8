use Rattle.link_core.proofs.Falls.{goes_down}
use Rattle.link_core.proofs.laws.events_go_down.Goals as goal

pub returns : goal.returns
returns k config c d q r e t w s step goes = goes_down w s.matches step r goes
