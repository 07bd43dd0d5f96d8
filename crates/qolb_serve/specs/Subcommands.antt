-- What each subcommand answers to the bytes on standard input.
use Rattle.std.specs.Prelude.{◌≡◌, ℕ, Bool, true, false, List, [], ◌++◌, Option, None, Err}
use Rattle.std.specs.Io.KnownBytes.{Appends}
use Rattle.line_kinds.specs.declared.Lock.{Lock}
use Rattle.qolb_script.specs.declared.report.Report.{Report}
use Rattle.qolb_script.specs.declared.reason.Refusal.{Refusal}
use Rattle.qolb_script.specs.Script.{IsBegun, parsed_schedule}
use Rattle.qolb_script.specs.StepScript.{AreBegun, parsed_steps}
use Rattle.qolb_script.specs.WorkScript.{WorkScript, parsed_work}
use Rattle.qolb_explain.specs.Notes.{AreStepNotes, schedule_notes}
use Rattle.qolb_replay.specs.declared.steps.Detail.TheVariants.{Words}
use Rattle.qolb_run.specs.declared.task.Task.{Task}
use Rattle.qolb_run.specs.declared.task.Task.TheVariants.{Replay, Steps, Work}
use Rattle.qolb_run.specs.declared.task.TaskError.{TaskError}
use Rattle.qolb_run.specs.Outcome.{Answers, HasBegunFor, IsRefused, MayEnd}
use Rattle.qolb_draw.specs.Pictures.{IsPicture}
use Rattle.qolb_draw.specs.StepPictures.{IsStepPicture}
use Rattle.qolb_serve.specs.declared.command_line.Subcommand.{Subcommand}
use Rattle.qolb_serve.specs.declared.command_line.Subcommand.TheVariants.{Answer, Draw, DrawSteps}

-- the text is the answer to the bytes, or their picture; `KindSpec` is the property that relates work on lines with a
-- lock to its report
abbrev pub Performs : (Lock → WorkScript → Report → Type 0) → Subcommand → List ℕ → List ℕ → Type 0
Performs KindSpec (Answer task) input text = Answers KindSpec task input text
Performs KindSpec (Draw form) input text = IsPicture form input text
Performs KindSpec (DrawSteps form) input text = IsStepPicture form input text

-- the bytes have an answer
pub record HasAnswer (KindSpec : Lock → WorkScript → Report → Type 0) (subcommand : Subcommand) (input : List ℕ) : Type 0 where
  pub text : List ℕ
  pub performs : Performs KindSpec subcommand input text

-- the text consists of the notes that follow the answer: for a replay, a note on each misuse; for a step script, a note
-- on each refused event; for all other subcommands, nothing
abbrev pub AreNotesOn : Subcommand → List ℕ → List ℕ → Type 0
AreNotesOn (Answer (Replay kind)) input text = text ≡ schedule_notes input
AreNotesOn (Answer (Steps detail)) input text = AreStepNotes input text
AreNotesOn (Answer (Work kind lock waits)) input text = text ≡ []
AreNotesOn (Draw form) input text = text ≡ []
AreNotesOn (DrawSteps form) input text = text ≡ []

-- the text consists of the notes if they are requested, and is empty otherwise
abbrev pub AreNotesIf : Bool → Subcommand → List ℕ → List ℕ → Type 0
AreNotesIf asked subcommand input text = (asked ≡ true → AreNotesOn subcommand input text) × (asked ≡ false → text ≡ [])

-- the answer to the bytes, followed by the notes if they are requested, was appended to what a writer had
pub record IsAnswered (KindSpec : Lock → WorkScript → Report → Type 0) (subcommand : Subcommand) (explain : Bool) (before after : Option (List ℕ)) (input : List ℕ) : Type 0 where
  pub text : List ℕ
  pub notes : List ℕ
  pub performs : Performs KindSpec subcommand input text
  pub noted : AreNotesIf explain subcommand input notes
  pub written : Appends before after (text ++ notes)

-- the bytes are too many, or have a first fault; a drawing has the same faults as a run of its script
abbrev pub IsDenied : Subcommand → List ℕ → Type 0
IsDenied (Answer task) input = IsRefused task input
IsDenied (Draw form) input = IsRefused (Replay None) input
IsDenied (DrawSteps form) input = IsRefused (Steps Words) input

-- when a subcommand may end with each error: for an answer, when its task may; for a drawing, when the run of its
-- script may
abbrev pub MayDeny : Subcommand → List ℕ → TaskError → Type 0
MayDeny (Answer task) input error = MayEnd task input error
MayDeny (Draw form) input error = MayEnd (Replay None) input error
MayDeny (DrawSteps form) input error = MayEnd (Steps Words) input error

-- neither the header of the bytes nor the first line below the header is refused
abbrev pub HasBegun : Subcommand → List ℕ → Type 0
HasBegun (Answer task) input = HasBegunFor task input
HasBegun (Draw form) input = IsBegun input
HasBegun (DrawSteps form) input = AreBegun input

-- the reader of the task's scripts refuses the bytes for this reason
abbrev pub IsRefusedTask : Task → List ℕ → Refusal → Type 0
IsRefusedTask (Replay lock) input why = parsed_schedule input ≡ Err why
IsRefusedTask (Steps detail) input why = parsed_steps input ≡ Err why
IsRefusedTask (Work kind lock waits) input why = parsed_work kind input ≡ Err why

abbrev pub IsRefusedFor : Subcommand → List ℕ → Refusal → Type 0
IsRefusedFor (Answer task) input why = IsRefusedTask task input why
IsRefusedFor (Draw form) input why = IsRefusedTask (Replay None) input why
IsRefusedFor (DrawSteps form) input why = IsRefusedTask (Steps Words) input why
