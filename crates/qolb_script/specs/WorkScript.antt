-- How input bytes are parsed as a work script. The result of parsing is the work script or the first error. The
-- definitions in this file were made for this project; none is taken from the literature.
use Rattle.std.specs.Prelude.{ℕ, ◌≤◌, List, [], ◌∷◌, All, take, Result, Ok, Err, IsOk}
use Rattle.qolb_script.specs.declared.job.Job.{Job}
use Rattle.qolb_script.specs.declared.job.WorkKind.{WorkKind}
use Rattle.qolb_script.specs.declared.job_reader.WorkHeader.{WorkHeader}
use Rattle.qolb_script.specs.declared.error.ScriptError.{ScriptError}
use Rattle.qolb_script.specs.declared.reason.Reason.{Reason}
use Rattle.qolb_script.specs.declared.reason.Reason.TheVariants.{Empty}
use Rattle.qolb_script.specs.declared.reason.Refusal.{Refusal}
use Rattle.qolb_script.specs.declared.reason.Refusal.TheVariants.{Line}
use Rattle.qolb_script.specs.Text.{numbered_lines, worded}
use Rattle.qolb_script.specs.Refusals.{with_error}
use Rattle.qolb_script.specs.Headers.{header_at, script_kind}
use Rattle.qolb_script.specs.Jobs.{worker_of, IsOfKind, job_of, work_header_of}
use Rattle.qolb_script.specs.Script.{script_under}

-- a work script: its kind, its numbers of workers and lines, and the jobs in order
pub record WorkScript : Type 0 where
  pub kind : WorkKind
  pub workers : ℕ
  pub lines : ℕ
  pub jobs : List Job

-- every job is of this kind, and its worker and its accounts exist
abbrev pub AreOfIts : WorkScript → Type 0
AreOfIts work = All (λ job. (1 ≤ worker_of job) × (worker_of job ≤ work.workers) × IsOfKind work.kind work.lines job) work.jobs

abbrev pub item_under : WorkKind → WorkHeader → List (List ℕ) → Result Job Reason
item_under kind header words = job_of kind header.workers header.lines words

abbrev pub work_by : WorkKind → WorkHeader → List Job → WorkScript
work_by kind header jobs = record { kind = kind; workers = header.workers; lines = header.lines; jobs = jobs }

-- Lines without words count in the numbering, but are skipped. The first other line is the header.
abbrev pub work_from : WorkKind → List (ℕ × List ℕ) → Result WorkScript Refusal
work_from kind [] = Err (Line 1 (Empty (script_kind kind)))
work_from kind (line ∷ rest) = script_under (item_under kind) (work_by kind) (header_at (script_kind kind) (work_header_of kind) line) rest

-- the work script that these bytes represent, or the reason why they do not represent one
abbrev pub parsed_work : WorkKind → List ℕ → Result WorkScript Refusal
parsed_work kind text = work_from kind (worded (numbered_lines text))

abbrev pub work_of : WorkKind → List ℕ → Result WorkScript ScriptError
work_of kind text = with_error (parsed_work kind text)

-- neither the header nor the first line below the header is refused
abbrev pub IsWorkBegun : WorkKind → List ℕ → Type 0
IsWorkBegun kind text = IsOk (work_from kind (take 2 (worded (numbered_lines text))))
