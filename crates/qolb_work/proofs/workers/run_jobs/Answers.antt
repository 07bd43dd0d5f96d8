use Rattle.std.proofs.Common.{◌<◌, ◌≤◌, List, length, take, subst}
use Rattle.qolb_script.specs.declared.job.Job.{Job}
use Rattle.qolb_script.specs.declared.schedule.TheConstants.{MAX_COMMANDS}
use Rattle.qolb_work.specs.Jobs.{jobs_of}
use Rattle.qolb_work.proofs.Gathering.{few_done}
use Rattle.qolb_work.proofs.workers.run_jobs.Goals as goal

pub run_job-requires-clause-done : goal.run_job-requires-clause-done
run_job-requires-clause-done g c =
    let is = c.jobs-job-items.ensures.jobs in (
      c.args.number,
      jobs_of c.args.number (take c.loop-job.job-index c.args.work.now.jobs),
      c.loop-job.invariant.0,
      few_done c.args.number c.args.work.now.jobs c.loop-job.job-index
          (subst (λ (js : List Job). c.loop-job.job-index < length js) is c.loop-job-test.true)
          (subst (λ (js : List Job). length js ≤ MAX_COMMANDS) is c.jobs-job-items.ensures.most),
    )
