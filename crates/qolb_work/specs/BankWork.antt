-- How a worker at a bank tries each job again until the job's lines are granted in time, and what the worker has done
-- after several jobs. The definitions in this file were made for this project; none is taken from the literature.
use Rattle.std.specs.Prelude.{◌≡◌, ℕ, ◌+◌, ◌*◌, ◌^◌, ◌<◌, ◌≤◌, Bool, true, false, List, [], ◌∷◌, ◌++◌, length, All, Some, slice_get}
use Rattle.qolb_model.specs.declared.config.LineConfig.{LineConfig}
use Rattle.qolb_model.specs.declared.view.View.{View}
use Rattle.qolb_model.specs.Releasing.{IsTold}
use Rattle.qolb_model.specs.Sums.{HasNotShut}
use Rattle.line_accounts.specs.Desks.{DeskOf, IsDeskOver}
use Rattle.line_accounts.specs.NewDesks.{IsUnpaid}
use Rattle.line_accounts.specs.Settled.{all_paid_in, all_paid_out}
use Rattle.line_accounts.specs.Calls.{Deposits, TakesOut, Transfers}
use Rattle.line_accounts.specs.declared.answer.Reply.{Reply}
use Rattle.line_accounts.specs.declared.answer.Reply.TheVariants.{Done, Short, Over, Late, Closed, Busy, NoAccount, SameAccount}
use Rattle.qolb_script.specs.declared.job.Job.{Job}
use Rattle.qolb_script.specs.declared.job.Job.TheVariants.{Put, Take, PayIn, PayOut, Move}
use Rattle.qolb_script.specs.declared.report.Report.{Report}
use Rattle.qolb_script.specs.declared.report.Report.TheVariants.{Board, Bank}
use Rattle.qolb_script.specs.declared.schedule.TheConstants.{MAX_COMMANDS}
use Rattle.qolb_script.specs.WorkScript.{WorkScript}
use Rattle.qolb_work.specs.JustOpened.{IsJustOpened, work_config}
use Rattle.qolb_work.specs.Workers.{AreDone}
use Rattle.qolb_work.specs.BankRuns.{is_outcome, paid_in_by, paid_out_by}

-- What was paid in at the desk, and what was paid out, is at most `jobs` times 2^64, which is above the amount of any
-- job.
pub record ArePaid {Port : Type 0} (jobs : ℕ) (desk : DeskOf Port) : Type 0 where
  pub paid_in : desk.paid_in ≤ jobs * 2 ^ 64
  pub paid_out : desk.paid_out ≤ jobs * 2 ^ 64

-- One call added at most 2^64 to what was paid in at the desk, and to what was paid out.
pub record PaysOneAmount {Port : Type 0} (old new : DeskOf Port) : Type 0 where
  pub paid_in : new.paid_in ≤ old.paid_in + 2 ^ 64
  pub paid_out : new.paid_out ≤ old.paid_out + 2 ^ 64

-- The amount of the job fits into 64 bits.
abbrev pub IsAmount : Job → Type 0
IsAmount (PayIn worker account amount) = amount < 2 ^ 64
IsAmount (PayOut worker account amount) = amount < 2 ^ 64
IsAmount (Move worker source target amount) = amount < 2 ^ 64
IsAmount (Put worker task) = Unit {0}
IsAmount (Take worker) = Unit {0}

-- the replies after which a job is tried again, because its lines were not granted in time
abbrev pub is_again : Reply → Bool
is_again Late = true
is_again Busy = true
is_again Done = false
is_again Short = false
is_again Over = false
is_again Closed = false
is_again NoAccount = false
is_again SameAccount = false

module _ {Port : Type 0} (view : Port → View) (lines : ℕ) where
  -- One call at a desk of `lines` lines tried the job, and this was the answer.
  abbrev pub Asks : Job → DeskOf Port → DeskOf Port → Reply → Type 0
  Asks (PayIn worker account amount) old new reply = Deposits view lines account amount old new reply
  Asks (PayOut worker account amount) old new reply = TakesOut view lines account amount old new reply
  Asks (Move worker source target amount) old new reply = Transfers view lines source target amount old new reply
  Asks (Put worker task) old new reply = ⊥
  Asks (Take worker) old new reply = ⊥

  -- The job was tried any number of times, and every answer was `Late` or `Busy`.
  pub data Tries (job : Job) (from : DeskOf Port) : DeskOf Port → Type 0 where
    not_yet : Tries job from from
    again : {mid new : DeskOf Port} (reply : Reply) → Tries job from mid → Asks job mid new reply → is_again reply ≡ true → Tries job from new

  -- These jobs were done one after another. Each of them was tried until its lines were granted, and then had this
  -- outcome. No job was tried again after its outcome, and no other call was made at the desk.
  pub data Makes (from : DeskOf Port) : List Job → List Reply → DeskOf Port → Type 0 where
    nothing : Makes from [] [] from
    another : {jobs : List Job} {replies : List Reply} {before late new : DeskOf Port} (job : Job) (reply : Reply) → Makes from jobs replies before → Tries job before late → Asks job late new reply → is_outcome reply ≡ true → Makes from (jobs ++ job ∷ []) (replies ++ reply ∷ []) new

-- The state of a worker of the bank between two jobs. The worker began with a new desk, whose ports were opened with
-- their lines, and has done these jobs since. Its desk has a port of the worker's node for each line. The worker has
-- shut none of the lines.
pub record HasBanked {Line Port : Type 0} (belongs : Line → Port → Type 0) (view : Port → View) (config_of : Line → LineConfig) (lines : List Line) (worker : ℕ) (desk : DeskOf Port) (jobs : List Job) : Type 0 where
  pub over : IsDeskOver belongs view lines desk
  pub of_worker : (i : ℕ) (port : Port) → slice_get desk.ports i ≡ Some port → (view port).node ≡ worker
  pub unshut : (i : ℕ) (port : Port) → slice_get desk.ports i ≡ Some port → HasNotShut (view port)
  pub fresh : DeskOf Port
  pub unpaid : IsUnpaid fresh
  pub opened : (i : ℕ) (port : Port) → slice_get fresh.ports i ≡ Some port → (line : Line) × (slice_get lines i ≡ Some line) × IsJustOpened (config_of line) worker (view port)
  pub amounts : All IsAmount jobs
  pub replies : List Reply
  pub len : length replies ≡ length jobs
  pub made : Makes view (length lines) fresh jobs replies desk
  pub paid_in : desk.paid_in ≡ paid_in_by jobs replies
  pub paid_out : desk.paid_out ≡ paid_out_by jobs replies
  pub small : ArePaid (length jobs) desk

-- The worker of the bank was told that one of its lines is closed. The worker itself has shut none of the lines.
pub record WasTold {Line Port : Type 0} (belongs : Line → Port → Type 0) (view : Port → View) (lines : List Line) (worker : ℕ) (desk : DeskOf Port) : Type 0 where
  pub over : IsDeskOver belongs view lines desk
  pub of_worker : (i : ℕ) (port : Port) → slice_get desk.ports i ≡ Some port → (view port).node ≡ worker
  pub unshut : (i : ℕ) (port : Port) → slice_get desk.ports i ≡ Some port → HasNotShut (view port)
  pub place : ℕ
  pub port : Port
  pub at : slice_get desk.ports place ≡ Some port
  pub told : IsTold (view port)
  pub small : ArePaid MAX_COMMANDS desk

-- The work of a bank was done over lines that were opened for it, with a desk for each worker, where the worker did its
-- jobs. `paid_in` and `paid_out` are the sums over all desks.
pub record AreBanked {Line Port : Type 0} (belongs : Line → Port → Type 0) (view : Port → View) (config_of : Line → LineConfig) (work : WorkScript) (paid_in paid_out : ℕ) : Type 0 where
  pub lines : List Line
  pub desks : List (DeskOf Port)
  pub count : length lines ≡ work.lines
  pub opened : All (λ line. config_of line ≡ work_config work.workers) lines
  pub each : length desks ≡ work.workers
  pub done : AreDone (HasBanked belongs view config_of) lines work.jobs desks
  pub in_is : paid_in ≡ all_paid_in desks
  pub out_is : paid_out ≡ all_paid_out desks

abbrev pub IsBankedOver : {Line Port : Type 0} → (Line → Port → Type 0) → (Port → View) → (Line → LineConfig) → WorkScript → Report → Type 0
IsBankedOver belongs view config_of work (Bank paid_in paid_out total) = AreBanked belongs view config_of work paid_in paid_out
IsBankedOver belongs view config_of work (Board stored full taken empty left) = Unit {0}
