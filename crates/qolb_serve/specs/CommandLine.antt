-- What the words of a command line request from the program. The library clap parses the words, and defines how a
-- command interprets them.
use Rattle.std.specs.Prelude.{Bool, ◌≡◌, true, false, if◌then◌else◌, List, [], ◌∷◌, map, Option, Some, None, option_map, codes}
use Rattle.std.specs.Borrow.{Bor}
use Rattle.std.specs.Option.{unwrap_or}
use Rattle.std.specs.Str.{bytes_eq}
use Rattle.clap.specs.Words.{App, Row, Rule, Text, first_of, new_app, new_rule, subcommand_of, takes, with_rule, with_subcommand}
use Rattle.clap.specs.declared.builder.ArgAction.TheVariants.{Set, SetTrue}
use Rattle.clap.specs.declared.builder.value_parser.ValueParser.TheVariants as parser
use Rattle.qolb_script.specs.declared.job.WorkKind.TheVariants.{Board, Bank}
use Rattle.line_kinds.specs.Locks.{lock_named, lock_names}
use Rattle.line_kinds.specs.declared.Lock.{Lock}
use Rattle.line_kinds.specs.declared.Lock.TheVariants as lock
use Rattle.qolb_draw.specs.declared.form.Form.{Form}
use Rattle.qolb_draw.specs.declared.form.Form.TheVariants as form
use Rattle.qolb_serve.specs.declared.command_line.Subcommand.{Subcommand}
use Rattle.qolb_serve.specs.declared.command_line.Subcommand.TheVariants.{Answer, Draw, DrawSteps}
use Rattle.qolb_replay.specs.declared.steps.Detail.{Detail}
use Rattle.qolb_replay.specs.declared.steps.Detail.TheVariants as detail
use Rattle.qolb_work.specs.declared.work.WaitMode.{WaitMode}
use Rattle.qolb_work.specs.declared.work.WaitMode.TheVariants as waits
use Rattle.qolb_run.specs.declared.task.Task.{Task}
use Rattle.qolb_run.specs.declared.task.Task.TheVariants as task

abbrev pub Names : Type 0
Names = Bor (List (Bor Text))

-- the borrowed names have these texts
abbrev pub AreNames : Names → List Text → Type 0
AreNames names texts = map (λ (name : Bor Text). name.now) names.now ≡ texts

-- the names of the kinds of lines: those that can replay a schedule, and those that workers can share
pub record KindNames : Type 0 where
  pub replayed : Names
  pub shared : Names
  pub replayed_are : AreNames replayed (codes "plain" ∷ lock_names)
  pub shared_are : AreNames shared lock_names

-- `--kind KIND`, with one of these names
abbrev pub kind_rule : Names → Rule
kind_rule names = record (new_rule (codes "kind")) {
  long = Some (codes "kind");
  action = Some Set;
  value_names = 1;
  parser = Some (parser.Names names);
}

-- `--name`, without a value
abbrev pub flag_rule : Text → Rule
flag_rule name = record (new_rule name) { long = Some name; action = Some SetTrue }

-- `--explain`, which each subcommand takes
abbrev pub explaining : App → App
explaining app = with_rule app (flag_rule (codes "explain"))

-- `replay --kind KIND [--explain]`, which needs the kind
abbrev pub replay_command : Names → App
replay_command names = explaining (with_rule (new_app (codes "replay")) (record (kind_rule names) { required = true }))

-- `steps [--rank] [--explain]`
abbrev pub steps_command : App
steps_command = explaining (with_rule (new_app (codes "steps")) (flag_rule (codes "rank")))

-- the subcommand for work with this name, on link lines if no kind is given
abbrev pub work_over : Text → Names → App
work_over name names = with_rule (new_app name) (record (kind_rule names) { defaults = codes "link" ∷ [] })

abbrev pub work_or_sleep : Text → Names → App
work_or_sleep name names = with_rule (work_over name names) (flag_rule (codes "sleep"))

abbrev pub work_or_progress : Text → Names → App
work_or_progress name names = with_rule (work_or_sleep name names) (flag_rule (codes "progress"))

abbrev pub work_command : Text → Names → App
work_command name names = explaining (work_or_progress name names)

-- `draw [--svg] [--steps] [--explain]`
abbrev pub draw_command : App
draw_command = explaining (with_rule (with_rule (new_app (codes "draw")) (flag_rule (codes "svg"))) (flag_rule (codes "steps")))

-- the program's command without its subcommands: it requires a subcommand, and has a version
abbrev pub bare_command : App
bare_command = let app = new_app (codes "qolb") in record app { top = record app.top { subcommand_required = true; has_version = true } }

-- the program's command: `replay --kind KIND`, `steps [--rank]`, `board [--kind KIND] [--sleep] [--progress]`, `bank`
-- with the same, or `draw [--svg] [--steps]`; each also with `--explain`
abbrev pub replay_or_steps : Names → App
replay_or_steps replayed = with_subcommand (with_subcommand bare_command (replay_command replayed).top) steps_command.top

abbrev pub with_workers : App → Names → App
with_workers app shared = with_subcommand (with_subcommand app (work_command (codes "board") shared).top) (work_command (codes "bank") shared).top

abbrev pub any_answer : KindNames → App
any_answer names = with_workers (replay_or_steps names.replayed) names.shared

abbrev pub the_command : KindNames → App
the_command names = with_subcommand (any_answer names) draw_command.top

-- the lock of the lines with this kind, which replay a schedule; the plain reference has no lock
abbrev pub replayed_by : Option Text → Option Lock
replayed_by None = None
replayed_by (Some name) = lock_named name

-- the lock with this name, or the link line's lock if no name is given or no lock has the name
abbrev pub lock_of_name : Option Text → Lock
lock_of_name None = lock.Link
lock_of_name (Some name) = unwrap_or (lock_named name) lock.Link

-- what is printed about each event, as the value of `--rank` selects it
abbrev pub detail_of : Option Text → Detail
detail_of None = detail.Words
detail_of (Some value) = if bytes_eq value (codes "true") then detail.Ranks else detail.Words

-- how workers wait, as the value of `--sleep` selects it
abbrev pub waits_of : Option Text → WaitMode
waits_of None = waits.Awake
waits_of (Some value) = if bytes_eq value (codes "true") then waits.Asleep else waits.Awake

-- whether a flag is given, as its value says
abbrev pub is_given : Option Text → Bool
is_given None = false
is_given (Some value) = bytes_eq value (codes "true")

abbrev pub is_given_at : Text → List Row → Bool
is_given_at flag rows = is_given (first_of flag rows)

-- the task of a subcommand with these arguments
abbrev pub task_by : Text → Option Text → Detail → WaitMode → Task
task_by name kind detail waits =
    if bytes_eq name (codes "steps") then task.Steps detail
    else if bytes_eq name (codes "board") then task.Work Board (lock_of_name kind) waits
    else if bytes_eq name (codes "bank") then task.Work Bank (lock_of_name kind) waits
    else task.Replay (replayed_by kind)

abbrev pub task_at : Text × List Row → Task
task_at entered = task_by entered.0 (first_of (codes "kind") entered.1) (detail_of (first_of (codes "rank") entered.1)) (waits_of (first_of (codes "sleep") entered.1))

-- the form of a picture, as the value of `--svg` selects it
abbrev pub form_of : Option Text → Form
form_of None = form.Text
form_of (Some value) = if bytes_eq value (codes "true") then form.Svg else form.Text

abbrev pub form_at : List Row → Form
form_at rows = form_of (first_of (codes "svg") rows)

-- the drawing of a step script if `--steps` is given, and of a schedule otherwise
abbrev pub drawing_of : Bool → Form → Subcommand
drawing_of steps form = if steps then DrawSteps form else Draw form

abbrev pub drawing_at : List Row → Subcommand
drawing_at rows = drawing_of (is_given_at (codes "steps") rows) (form_at rows)

-- what a subcommand with these arguments requests
abbrev pub wish_at : Text × List Row → Subcommand
wish_at entered = if bytes_eq entered.0 (codes "draw") then drawing_at entered.1 else Answer (task_at entered)

-- the words request this subcommand
pub record NamesWish (words : List Text) (wanted : Subcommand) : Type 0 where
  pub names : KindNames
  pub named : option_map wish_at (subcommand_of (the_command names) words) ≡ Some wanted

-- whether the words have this flag
pub record NamesFlag (flag : Text) (words : List Text) (wanted : Bool) : Type 0 where
  pub names : KindNames
  pub named : option_map (λ (entered : Text × List Row). is_given_at flag entered.1) (subcommand_of (the_command names) words) ≡ Some wanted

-- the command does not take the words
pub record IsNotTaken (words : List Text) : Type 0 where
  pub names : KindNames
  pub refused : takes (the_command names) words ≡ false
