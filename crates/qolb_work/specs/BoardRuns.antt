-- The effect of a list of jobs on a task board that has only one owner, who does the jobs one after another. The
-- definitions in this file were made for this project; none is taken from the literature.
use Rattle.std.specs.Prelude.{ℕ, ◌+◌, nat_lt, if◌then◌else◌, List, [], ◌∷◌, ◌++◌, length, drop}
use Rattle.line_board.specs.declared.board.TheConstants.{MAX_TASKS}
use Rattle.qolb_script.specs.declared.job.Job.{Job}
use Rattle.qolb_script.specs.declared.job.Job.TheVariants.{Put, Take, PayIn, PayOut, Move}
use Rattle.qolb_script.specs.declared.report.Report.{Report}
use Rattle.qolb_script.specs.declared.report.Report.TheVariants.{Board}
use Rattle.qolb_work.specs.declared.board.BoardCounts.{BoardCounts}

-- The tasks that a job leaves of the tasks that it finds. A put appends its task if it finds fewer than `MAX_TASKS`
-- tasks, and a take removes the first task.
abbrev pub tasks_after : Job → List ℕ → List ℕ
tasks_after (Put worker task) tasks = if nat_lt (length tasks) MAX_TASKS then tasks ++ task ∷ [] else tasks
tasks_after (Take worker) tasks = drop 1 tasks
tasks_after (PayIn worker account amount) tasks = tasks
tasks_after (PayOut worker account amount) tasks = tasks
tasks_after (Move worker source target amount) tasks = tasks

-- the counts after the job. They count the puts that stored a task, the puts that found the board full, the takes that
-- took a task, and the takes that found none
abbrev pub counts_after : Job → List ℕ → BoardCounts → BoardCounts
counts_after (Put worker task) tasks counts = if nat_lt (length tasks) MAX_TASKS then record counts { stored = counts.stored + 1 } else record counts { full = counts.full + 1 }
counts_after (Take worker) [] counts = record counts { empty = counts.empty + 1 }
counts_after (Take worker) (task ∷ tasks) counts = record counts { taken = counts.taken + 1 }
counts_after (PayIn worker account amount) tasks counts = counts
counts_after (PayOut worker account amount) tasks counts = counts
counts_after (Move worker source target amount) tasks counts = counts

-- a board with one owner: its tasks, and the counts of the jobs that were done so far
pub record BoardRun : Type 0 where
  pub tasks : List ℕ
  pub counts : BoardCounts

abbrev pub after_job : BoardRun → Job → BoardRun
after_job run job = record { tasks = tasks_after job run.tasks; counts = counts_after job run.tasks run.counts }

-- the board after one owner has done these jobs in order
abbrev pub after_jobs : BoardRun → List Job → BoardRun
after_jobs run [] = run
after_jobs run (job ∷ jobs) = after_jobs (after_job run job) jobs

-- counts that are all 0
abbrev pub no_counts : BoardCounts
no_counts = record { stored = 0; full = 0; taken = 0; empty = 0 }

-- a board without tasks, before the first job
abbrev pub empty_board : BoardRun
empty_board = record { tasks = []; counts = no_counts }

-- the report of such a board
abbrev pub report_of : BoardRun → Report
report_of run = Board run.counts.stored run.counts.full run.counts.taken run.counts.empty (length run.tasks)
