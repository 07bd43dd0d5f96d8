use Rattle.link_core.proofs.Found.{ends_close}
use Rattle.link_core.proofs.laws.ends_close.Goals as goal

pub returns : goal.returns
returns k config c q n r s ne e = ends_close config.lease q n r s.legal ne e
