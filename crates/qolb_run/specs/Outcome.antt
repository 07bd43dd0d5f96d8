-- How a task can end for a given input: with a text or with an error. A task is a replay, the run of a step script, or
-- work.
use Rattle.std.specs.Prelude.{◌≡◌, ◌≢◌, ◌<◌, ◌≤◌, ◌⊎◌, ℕ, List, length, Ok, Err}
use Rattle.qolb_replay.specs.declared.replay.ReplayError.{ReplayError}
use Rattle.qolb_replay.specs.declared.replay.ReplayError.TheVariants as error
use Rattle.qolb_replay.specs.declared.input.TheConstants.{MAX_BYTES}
use Rattle.qolb_script.specs.declared.error.ScriptError.{ScriptError}
use Rattle.qolb_script.specs.declared.error.ScriptError.TheVariants as script
use Rattle.qolb_replay.specs.StepRuns.{IsStepReplyTo}
use Rattle.qolb_replay.specs.Outcome.{IsReply, HasReplayFault, HasStepFault, MayFailBy}
use Rattle.line_kinds.specs.declared.Lock.{Lock}
use Rattle.qolb_run.specs.declared.task.Task.{Task}
use Rattle.qolb_run.specs.declared.task.Task.TheVariants.{Replay, Steps, Work}
use Rattle.qolb_run.specs.declared.task.TaskError.{TaskError}
use Rattle.qolb_run.specs.declared.task.TaskError.TheVariants as ending
use Rattle.qolb_work.specs.declared.work.RunError.{RunError}
use Rattle.qolb_work.specs.declared.work.RunError.TheVariants as run
use Rattle.qolb_work.specs.Workers.{MayStop}
use Rattle.qolb_work.specs.Reports.{IsReportOf}
use Rattle.qolb_script.specs.declared.job.WorkKind.{WorkKind}
use Rattle.qolb_script.specs.declared.report.Report.{Report}
use Rattle.qolb_script.specs.Reports.{report_text}
use Rattle.qolb_script.specs.Script.{IsBegun}
use Rattle.qolb_script.specs.StepScript.{AreBegun}
use Rattle.qolb_script.specs.WorkScript.{IsWorkBegun, WorkScript, work_of}

-- The input is short enough, and its bytes are this work script.
pub record IsWork (kind : WorkKind) (input : List ℕ) (work : WorkScript) : Type 0 where
  pub fits : length input ≤ MAX_BYTES
  pub read : work_of kind input ≡ Ok work

-- The input is a work script, and the text is a report of its work. `IsOver` holds for the work and the report; it says
-- over which lines the work was done.
pub record IsReplyOver (IsOver : WorkScript → Report → Type 0) (kind : WorkKind) (input text : List ℕ) : Type 0 where
  pub work : WorkScript
  pub is : IsWork kind input work
  pub report : Report
  pub of_work : IsReportOf work report
  pub over : IsOver work report
  pub text_is : text ≡ report_text report

-- `Answers`: the text is the reply of the task to the input. `HasWorkFault` and `HasFault`: this is the first fault of
-- the input, which is read as a work script or as a script of the task.
abbrev pub Answers : (Lock → WorkScript → Report → Type 0) → Task → List ℕ → List ℕ → Type 0
Answers KindSpec (Replay kind) input text = IsReply input text
Answers KindSpec (Steps detail) input text = IsStepReplyTo detail input text
Answers KindSpec (Work kind lock waits) input text = IsReplyOver (KindSpec lock) kind input text

abbrev pub HasWorkFault : WorkKind → List ℕ → ScriptError → Type 0
HasWorkFault kind input fault = work_of kind input ≡ Err fault

abbrev pub HasFault : Task → List ℕ → ScriptError → Type 0
HasFault (Replay kind) input fault = HasReplayFault input fault
HasFault (Steps detail) input fault = HasStepFault input fault
HasFault (Work kind lock waits) input fault = HasWorkFault kind input fault

-- The input is too long, or has a first fault.
abbrev pub IsRefused : Task → List ℕ → Type 0
IsRefused task input = (MAX_BYTES < length input) ⊎ ((fault : ScriptError) × HasFault task input fault)

-- Neither the header of the input nor the first line after the header is refused.
abbrev pub HasBegunFor : Task → List ℕ → Type 0
HasBegunFor (Replay lock) input = IsBegun input
HasBegunFor (Steps detail) input = AreBegun input
HasBegunFor (Work kind lock waits) input = IsWorkBegun kind input

-- The conditions for each error that a replay can also return, expressed with the answers and the first fault of this
-- task.
abbrev pub MayFail : Task → List ℕ → ReplayError → Type 0
MayFail task input error = MayFailBy (Answers (λ lock work report. Unit {0}) task) (HasFault task) input error

-- The task is work, and one of its workers has this number. Such a worker may give up.
abbrev pub MayStall : Task → List ℕ → ℕ → Type 0
MayStall (Replay kind) input worker = ⊥
MayStall (Steps detail) input worker = ⊥
MayStall (Work kind lock waits) input worker = (work : WorkScript) × IsWork kind input work × MayStop work (run.Stalled worker)

-- The conditions for each error of a task. A task can end with an error that a replay can also return. Work can also
-- end because one of its workers gave up.
abbrev pub MayEnd : Task → List ℕ → TaskError → Type 0
MayEnd task input ending.Memory = MayFail task input error.Memory
MayEnd task input ending.Read = MayFail task input error.Read
MayEnd task input ending.Long = MayFail task input error.Long
MayEnd task input (ending.Script fault) = MayFail task input (error.Script fault)
MayEnd task input ending.Write = MayFail task input error.Write
MayEnd task input (ending.Stalled worker) = MayStall task input worker

-- The reason why the input has no report of work. Memory was refused, or the input has this first fault, or the input
-- is a work script and one of its workers gave up.
abbrev pub HasNoReport : WorkKind → List ℕ → TaskError → Type 0
HasNoReport kind input ending.Memory = Unit {0}
HasNoReport kind input ending.Read = ⊥
HasNoReport kind input ending.Long = ⊥
HasNoReport kind input (ending.Script fault) = HasWorkFault kind input fault × (fault ≢ script.Memory)
HasNoReport kind input ending.Write = ⊥
HasNoReport kind input (ending.Stalled worker) = (work : WorkScript) × (work_of kind input ≡ Ok work) × MayStop work (run.Stalled worker)

-- Three functions that convert the error of a script, of a replay, and of work into the error of the task.
abbrev pub script_ending : ScriptError → TaskError
script_ending script.Memory = ending.Memory
script_ending (script.BadLine n) = ending.Script (script.BadLine n)
script_ending (script.Number n) = ending.Script (script.Number n)
script_ending (script.TooMany n) = ending.Script (script.TooMany n)

abbrev pub replay_ending : ReplayError → TaskError
replay_ending error.Memory = ending.Memory
replay_ending error.Read = ending.Read
replay_ending error.Long = ending.Long
replay_ending (error.Script fault) = ending.Script fault
replay_ending error.Write = ending.Write

abbrev pub work_ending : RunError → TaskError
work_ending run.Memory = ending.Memory
work_ending (run.Stalled worker) = ending.Stalled worker
