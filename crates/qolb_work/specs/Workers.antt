-- What a worker has done when the worker's thread has ended. The definitions in this file were made for this project;
-- none is taken from the literature.
use Rattle.std.specs.Prelude.{◌≡◌, ◌⊎◌, ℕ, ◌+◌, ◌<◌, ◌≤◌, List, [], length, Option, Some, None, slice_get}
use Rattle.qolb_script.specs.declared.job.Job.{Job}
use Rattle.qolb_script.specs.declared.schedule.TheConstants.{MAX_COMMANDS}
use Rattle.qolb_script.specs.WorkScript.{WorkScript, AreOfIts}
use Rattle.qolb_model.specs.declared.config.TheConstants.{MAX_NODES}
use Rattle.qolb_work.specs.Jobs.{jobs_of}
use Rattle.qolb_work.specs.declared.work.RunError.{RunError}
use Rattle.qolb_work.specs.declared.work.RunError.TheVariants.{Memory, Stalled}

-- The worker has ended: either it has done all its jobs, or it was told that a line is closed.
abbrev pub HasEnded : {JobTarget WorkerState : Type 0} → (JobTarget → ℕ → WorkerState → List Job → Type 0) → (JobTarget → ℕ → WorkerState → Type 0) → JobTarget → ℕ → WorkerState → List Job → Type 0
HasEnded has_done was_told site worker hand jobs = has_done site worker hand jobs ⊎ was_told site worker hand

-- Every worker that did not give up has done its jobs. Worker k + 1 is at place k of the list.
abbrev pub AreBack : {JobTarget WorkerState : Type 0} → (JobTarget → ℕ → WorkerState → List Job → Type 0) → JobTarget → List Job → List (Option WorkerState) → Type 0
AreBack {JobTarget} {WorkerState} has_done site jobs back = (k : ℕ) (hand : WorkerState) → slice_get back k ≡ Some (Some hand) → has_done site (k + 1) hand (jobs_of (k + 1) jobs)

-- All workers have done all their jobs.
abbrev pub AreDone : {JobTarget WorkerState : Type 0} → (JobTarget → ℕ → WorkerState → List Job → Type 0) → JobTarget → List Job → List WorkerState → Type 0
AreDone {JobTarget} {WorkerState} has_done site jobs hands = (k : ℕ) (hand : WorkerState) → slice_get hands k ≡ Some hand → has_done site (k + 1) hand (jobs_of (k + 1) jobs)

-- No worker has begun.
abbrev pub AreFresh : {JobTarget WorkerState : Type 0} → (JobTarget → ℕ → WorkerState → List Job → Type 0) → JobTarget → List WorkerState → Type 0
AreFresh {JobTarget} {WorkerState} has_done site hands = (k : ℕ) (hand : WorkerState) → slice_get hands k ≡ Some hand → has_done site (k + 1) hand []

-- The error is `Stalled`, and names the first worker that gave up. All workers before it came back.
abbrev pub IsFirstGone : {WorkerState : Type 0} → List (Option WorkerState) → RunError → Type 0
IsFirstGone back Memory = ⊥
IsFirstGone {WorkerState} back (Stalled worker) =
    (k : ℕ) × (worker ≡ k + 1) × (slice_get back k ≡ Some None) × ((j : ℕ) → j < k → (hand : WorkerState) × (slice_get back j ≡ Some (Some hand)))

-- The gate may refuse every worker that gave up.
abbrev pub AreRefused : {WorkerState : Type 0} → (ℕ → Type 0) → List (Option WorkerState) → Type 0
AreRefused {WorkerState} may_refuse back = (k : ℕ) → slice_get back k ≡ Some None → may_refuse (k + 1)

-- The reasons why there may be no report: memory was refused, or one of the workers, with this number, gave up.
abbrev pub MayStop : WorkScript → RunError → Type 0
MayStop work Memory = Unit {0}
MayStop work (Stalled worker) = (1 ≤ worker) × (worker ≤ work.workers)

-- The work does not exceed the largest numbers of workers and jobs, and each job belongs to one of the workers.
pub record IsWithinLimits (work : WorkScript) : Type 0 where
  pub few : work.workers ≤ MAX_NODES
  pub most : length work.jobs ≤ MAX_COMMANDS
  pub its : AreOfIts work
