use Rattle.std.proofs.Common.{ap₂, ◌∙◌}
use Rattle.qolb_serve.specs.CommandLine.{drawing_of}
use Rattle.qolb_serve.proofs.command_line.drawing_at.Goals as goal

pub returns : goal.returns
returns c = c.drawing_of.ensures ∙ ap₂ drawing_of c.is_given_at.ensures c.form_at.ensures
