use Rattle.std.proofs.Common.{ap, codes, ◌∙◌}
use Rattle.clap.specs.Words.{found_of}
use Rattle.clap.proofs.WalkLemmas.{first_value-rows}
use Rattle.qolb_serve.specs.CommandLine.{form_of}
use Rattle.qolb_serve.proofs.command_line.form_at.Goals as goal

pub returns : goal.returns
returns c = c.form_of.ensures ∙ ap form_of (c.get_str.ensures ∙ first_value-rows (found_of c.args.arguments.now) (codes "svg"))
