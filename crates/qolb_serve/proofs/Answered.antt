-- Lemmas about what the answer or the error of a subcommand says about the subcommand's input.
use Rattle.std.proofs.Common.{◌≡◌, ◌≢◌, ℕ, Bool, List, Option, Some, None, Result, Ok, Err, IfSome, inl, inr, refl, subst, ◌∙◌, arith}
use Rattle.line_kinds.specs.declared.Lock.{Lock}
use Rattle.qolb_script.specs.declared.report.Report.{Report}
use Rattle.qolb_script.specs.declared.error.ScriptError.{ScriptError}
use Rattle.qolb_script.specs.Script.{IsBegun, Script, script_of}
use Rattle.qolb_script.specs.Reply.{replied}
use Rattle.qolb_draw.specs.declared.form.Form.{Form}
use Rattle.qolb_draw.specs.Pictures.{drawn}
use Rattle.qolb_script.specs.WorkScript.{WorkScript}
use Rattle.qolb_script.proofs.Begun.{schedule_begun, steps_begun, work_begun}
use Rattle.qolb_replay.specs.declared.replay.ReplayError.{ReplayError}
use Rattle.qolb_replay.specs.declared.replay.ReplayError.TheVariants as replay
use Rattle.qolb_run.specs.declared.task.TaskError.{TaskError}
use Rattle.qolb_run.specs.declared.task.TaskError.TheVariants as ending
use Rattle.qolb_replay.specs.declared.steps.Detail.TheVariants.{Words}
use Rattle.qolb_run.specs.declared.task.Task.{Task}
use Rattle.qolb_run.specs.declared.task.Task.TheVariants.{Replay, Steps, Work}
use Rattle.qolb_run.specs.Outcome.{MayEnd, IsRefused, replay_ending}
use Rattle.qolb_serve.specs.declared.command_line.Subcommand.{Subcommand}
use Rattle.qolb_serve.specs.declared.command_line.Subcommand.TheVariants.{Answer, Draw, DrawSteps}
use Rattle.qolb_serve.specs.Subcommands.{HasAnswer, HasBegun, IsAnswered, IsDenied, MayDeny, Performs}
use Rattle.qolb_serve.specs.Status.{status_of}

fault : (task : Task) (e : TaskError) (input : List ℕ) → MayEnd task input e → status_of e ≡ 1 → IsRefused task input
fault task ending.Memory input h one = absurd (omega arith)
fault task ending.Read input h one = absurd (omega arith)
fault task ending.Long input h one = inl h
fault task (ending.Script why) input h one = inr (why, h.1)
fault task ending.Write input h one = absurd (omega arith)
fault task (ending.Stalled worker) input h one = absurd (omega arith)

pub denied : (subcommand : Subcommand) (e : TaskError) (input : List ℕ) → MayDeny subcommand input e → status_of e ≡ 1 → IsDenied subcommand input
denied (Answer task) e input h one = fault task e input h one
denied (Draw form) e input h one = fault (Replay None) e input h one
denied (DrawSteps form) e input h one = fault (Steps Words) e input h one

-- a property of a script that was read is also a property of the reader's bytes, if these are known
known : (P : List ℕ → Type 0) (script slice : List ℕ) (bytes : Option (List ℕ)) → IfSome bytes (λ rest. script ≡ rest) → slice ≡ script → P slice → IfSome bytes P
known P script slice None is same h = tt
known P script slice (Some rest) is same h = subst P (same ∙ is) h

pub known_denied : (subcommand : Subcommand) (script slice : List ℕ) (bytes : Option (List ℕ)) → IfSome bytes (λ rest. script ≡ rest) → slice ≡ script → IsDenied subcommand slice → IfSome bytes (IsDenied subcommand)
known_denied subcommand script slice bytes is same h = known (IsDenied subcommand) script slice bytes is same h

pub known_answer : (KindSpec : Lock → WorkScript → Report → Type 0) (subcommand : Subcommand) (script slice : List ℕ) (bytes : Option (List ℕ)) → IfSome bytes (λ rest. script ≡ rest) → slice ≡ script
    → HasAnswer KindSpec subcommand slice → IfSome bytes (HasAnswer KindSpec subcommand)
known_answer KindSpec subcommand script slice bytes is same h = known (HasAnswer KindSpec subcommand) script slice bytes is same h

pub known_answered : (KindSpec : Lock → WorkScript → Report → Type 0) (subcommand : Subcommand) (explain : Bool) (before after : Option (List ℕ)) (script slice : List ℕ) (bytes : Option (List ℕ))
    → IfSome bytes (λ rest. script ≡ rest) → slice ≡ script → IsAnswered KindSpec subcommand explain before after slice → IfSome bytes (IsAnswered KindSpec subcommand explain before after)
known_answered KindSpec subcommand explain before after script slice bytes is same h = known (IsAnswered KindSpec subcommand explain before after) script slice bytes is same h

-- if a script has an answer, neither its header nor its first line is refused
replied_begun : (input text : List ℕ) (script : Result Script ScriptError) → script_of input ≡ script → replied script ≡ Ok text → IsBegun input
replied_begun input text (Ok script) same e = schedule_begun input script same
replied_begun input text (Err why) same e = cc

drawn_begun : (form : Form) (input text : List ℕ) (script : Result Script ScriptError) → script_of input ≡ script → drawn form script ≡ Ok text → IsBegun input
drawn_begun form input text (Ok script) same e = schedule_begun input script same
drawn_begun form input text (Err why) same e = cc

pub answered_begun : (KindSpec : Lock → WorkScript → Report → Type 0) (subcommand : Subcommand) (input text : List ℕ) → Performs KindSpec subcommand input text → HasBegun subcommand input
answered_begun KindSpec (Answer (Replay lock)) input text h = replied_begun input text (script_of input) refl h.reply
answered_begun KindSpec (Answer (Steps detail)) input text h = steps_begun input h.script h.read
answered_begun KindSpec (Answer (Work kind lock waits)) input text h = work_begun kind input h.work h.is.read
answered_begun KindSpec (Draw form) input text h = drawn_begun form input text (script_of input) refl h.picture
answered_begun KindSpec (DrawSteps form) input text h = steps_begun input h.script h.read

-- if no worker stalled, the exit status 3 means that an allocation was refused
pub replay_memory : (e : ReplayError) → status_of (replay_ending e) ≡ 3 → e ≡ replay.Memory
replay_memory replay.Memory three = refl
replay_memory replay.Read three = absurd (omega arith)
replay_memory replay.Long three = absurd (omega arith)
replay_memory (replay.Script why) three = absurd (omega arith)
replay_memory replay.Write three = absurd (omega arith)

pub task_memory : (e : TaskError) → status_of e ≡ 3 → ((worker : ℕ) → e ≢ ending.Stalled worker) → e ≡ ending.Memory
task_memory ending.Memory three never = refl
task_memory ending.Read three never = absurd (omega arith)
task_memory ending.Long three never = absurd (omega arith)
task_memory (ending.Script why) three never = absurd (omega arith)
task_memory ending.Write three never = absurd (omega arith)
task_memory (ending.Stalled worker) three never = absurd (never worker refl)
