-- The jobs of a work script: which jobs a board or a bank can do, and which jobs belong to each worker. The definitions
-- in this file were made for this project; none is taken from the literature.
use Rattle.std.specs.Prelude.{◌≡◌, ℕ, ◌==◌, Bool, true, false, List, count_by}
use Rattle.std.specs.List.{filter}
use Rattle.qolb_script.specs.declared.job.Job.{Job}
use Rattle.qolb_script.specs.declared.job.Job.TheVariants.{Put, Take, PayIn, PayOut, Move}
use Rattle.qolb_script.specs.declared.job.WorkKind.TheVariants as kind
use Rattle.qolb_script.specs.Jobs.{worker_of, IsOfKind}

-- `IsBoardJob` says that the job is one of a board, and `IsBankJob` that it is one of a bank with `lines` lines.
abbrev pub IsBoardJob : Job → Type 0
IsBoardJob job = IsOfKind kind.Board 1 job

abbrev pub IsBankJob : ℕ → Job → Type 0
IsBankJob lines job = IsOfKind kind.Bank lines job

-- `is_put` tests whether the job puts a task on the board, and `is_take` whether it takes a task.
abbrev pub is_put : Job → Bool
is_put (Put worker task) = true
is_put (Take worker) = false
is_put (PayIn worker account amount) = false
is_put (PayOut worker account amount) = false
is_put (Move worker source target amount) = false

abbrev pub is_take : Job → Bool
is_take (Put worker task) = false
is_take (Take worker) = true
is_take (PayIn worker account amount) = false
is_take (PayOut worker account amount) = false
is_take (Move worker source target amount) = false

-- how many of these jobs put a task on the board, and how many take one
abbrev pub puts_in : List Job → ℕ
puts_in jobs = count_by is_put jobs

abbrev pub takes_in : List Job → ℕ
takes_in jobs = count_by is_take jobs

-- the jobs of one worker, in their original order
abbrev pub jobs_of : ℕ → List Job → List Job
jobs_of worker jobs = filter (λ job. worker_of job == worker) jobs

-- The list contains the jobs of all workers, and keeps the order of each worker's jobs. In other words, it is an
-- interleaving of the workers' jobs.
abbrev pub IsInterleaving : List Job → List Job → Type 0
IsInterleaving jobs sequence = (worker : ℕ) → jobs_of worker sequence ≡ jobs_of worker jobs
