use Rattle.std.proofs.Common.{◌≤◌, take}
use Rattle.qolb_work.specs.Jobs.{jobs_of}
use Rattle.qolb_work.proofs.workers.run_jobs.Given as goal

abbrev pub invariant-loop-job : goal.invariant-loop-job
invariant-loop-job g l = g.S.JobTarget.has_done l.site l.number l.hand (jobs_of l.number (take l.job-index l.fn.work.jobs)) × (l.at ≤ l.job-index)
