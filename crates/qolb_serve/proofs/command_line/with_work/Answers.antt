use Rattle.std.proofs.Common.{ap, ap₂, codes, Bool, ◌≡◌, ◌∙◌}
use Rattle.std.proofs.lemmas.Result.{IfOk-weaker}
use Rattle.clap.specs.Words.{App, Shape, app_of, with_subcommand}
use Rattle.qolb_serve.specs.CommandLine.{work_command}
use Rattle.qolb_serve.proofs.CommandLines.{no_globals}
use Rattle.qolb_serve.proofs.command_line.with_work.Goals as goal

pub returns : goal.returns
returns c =
    let top : App → Shape = λ a. a.top in
    let plain : App → Bool = λ a. a.top.is_plain in
    let board_is : app_of c.in_ok-work.field-0 ≡ work_command (codes "board") c.args.kinds = c.in_ok-work.ensures in
    let bank_is : app_of c.in_ok-work-2.field-0 ≡ work_command (codes "bank") c.args.kinds = c.in_ok-work-2.ensures in
    let first_is : app_of c.in_ok-subcommand.field-0 ≡ with_subcommand (app_of c.args.command) (work_command (codes "board") c.args.kinds).top =
    c.in_ok-subcommand.ensures.shape (no_globals _ _ _ _ (ap plain board_is)) ∙ ap (with_subcommand (app_of c.args.command)) (ap top board_is) in
    IfOk-weaker c.subcommand-2.result _ _ (λ r h. h.shape (no_globals _ _ _ _ (ap plain bank_is)) ∙ ap₂ with_subcommand first_is (ap top bank_is)) c.subcommand-2.ensures
