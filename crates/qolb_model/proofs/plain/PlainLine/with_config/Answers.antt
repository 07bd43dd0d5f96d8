use Rattle.std.proofs.Common.{rules}
use Rattle.qolb_model.proofs.Steps.{agrees_opened}
use Rattle.qolb_model.proofs.plain.PlainLine.with_config.Goals as goal

pub returns : goal.returns
returns c = rw c.new.ensures (agrees_opened c.args.config c.in_ok-check.ensures (search rules))
