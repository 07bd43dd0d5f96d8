use Rattle.std.proofs.Common.{ap, ◌∙◌}
use Rattle.clap.specs.Words.{found_of}
use Rattle.clap.proofs.WalkLemmas.{first_value-rows}
use Rattle.qolb_serve.specs.CommandLine.{is_given}
use Rattle.qolb_serve.proofs.command_line.is_given_at.Goals as goal

pub returns : goal.returns
returns c = c.is_given.ensures ∙ ap is_given (c.get_str.ensures ∙ first_value-rows (found_of c.args.arguments.now) c.args.flag.now)
