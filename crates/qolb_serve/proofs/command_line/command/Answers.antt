use Rattle.std.proofs.Common.{rules, ap, ap₂, Bool, ◌≡◌, ◌∙◌}
use Rattle.std.proofs.lemmas.Result.{IfOk-weaker}
use Rattle.clap.specs.Words.{App, Shape, app_of, with_subcommand}
use Rattle.qolb_serve.specs.CommandLine.{KindNames, any_answer, draw_command, replay_or_steps, with_workers}
use Rattle.qolb_serve.proofs.CommandLines.{no_globals}
use Rattle.qolb_serve.proofs.command_line.command.Goals as goal

pub returns : goal.returns
returns c =
    let top : App → Shape = λ a. a.top in
    let plain : App → Bool = λ a. a.top.is_plain in
    let names : KindNames = record { replayed = c.as_slice-replayed.result; shared = c.as_slice-shared.result; replayed_are = search rules; shared_are = search rules } in
    let scripts_is : app_of c.in_ok-scripts.field-0 ≡ replay_or_steps names.replayed = c.in_ok-scripts.ensures in
    let work_is : app_of c.in_ok-with_work.field-0 ≡ any_answer names = c.in_ok-with_work.ensures ∙ ap (λ (a : App). with_workers a names.shared) scripts_is in
    let draw_is : app_of c.in_ok-draw.field-0 ≡ draw_command = c.in_ok-draw.ensures in
    IfOk-weaker c.subcommand.result _ _ (λ r h. (names, h.shape (no_globals _ _ _ _ (ap plain draw_is)) ∙ ap₂ with_subcommand work_is (ap top draw_is))) c.subcommand.ensures
