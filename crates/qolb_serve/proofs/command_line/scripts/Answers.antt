use Rattle.std.proofs.Common.{ap, ap₂, Bool, ◌≡◌, ◌∙◌}
use Rattle.std.proofs.lemmas.Result.{IfOk-weaker}
use Rattle.clap.specs.Words.{App, Shape, app_of, with_subcommand}
use Rattle.qolb_serve.specs.CommandLine.{bare_command, replay_command, steps_command}
use Rattle.qolb_serve.proofs.CommandLines.{no_globals}
use Rattle.qolb_serve.proofs.command_line.scripts.Goals as goal

pub returns : goal.returns
returns c =
    let top : App → Shape = λ a. a.top in
    let plain : App → Bool = λ a. a.top.is_plain in
    let replay_is : app_of c.in_ok-replay.field-0 ≡ replay_command c.args.kinds = c.in_ok-replay.ensures in
    let steps_is : app_of c.in_ok-steps.field-0 ≡ steps_command = c.in_ok-steps.ensures in
    let first_is : app_of c.in_ok-subcommand.field-0 ≡ with_subcommand bare_command (replay_command c.args.kinds).top =
    c.in_ok-subcommand.ensures.shape (no_globals _ _ _ _ (ap plain replay_is)) ∙ ap₂ with_subcommand c.program.ensures (ap top replay_is) in
    IfOk-weaker c.subcommand-2.result _ _ (λ r h. h.shape (no_globals _ _ _ _ (ap plain steps_is)) ∙ ap₂ with_subcommand first_is (ap top steps_is)) c.subcommand-2.ensures
