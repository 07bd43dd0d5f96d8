use Rattle.std.proofs.Common.{None, ◌∙◌}
use Rattle.qolb_work.proofs.Gathering.{just_opened}
use Rattle.qolb_work.proofs.open.open_line.Goals as goal

pub returns-in-Ok-clause-new : goal.returns-in-Ok-clause-new
returns-in-Ok-clause-new g c = record {
  own = just_opened g.L.LineSync.belongs g.L.LineSync.view g.L.LineSync.config_of _ _ _ _ c.in-Ok.ensures.opens.config_is c.in-Ok.ensures.opens.each_belongs c.in-Ok.ensures.opens.new;
  config = c.in-Ok.ensures.opens.config_is ∙ (λ i. record { nodes = c.args.workers; opening = record { bytes = c.zero.ensures i }; lease = None });
}
