-- How much the jobs of a bank pay in and pay out, computed from the outcomes of the jobs. The definitions in this file
-- were made for this project; none is taken from the literature.
use Rattle.std.specs.Prelude.{◌≡◌, ℕ, ◌+◌, ◌-◌, ◌==◌, nat_lt, if◌then◌else◌, Bool, true, false, List, [], ◌∷◌, length, All, Some, slice_get}
use Rattle.std.specs.List.{sum_by}
use Rattle.line_accounts.specs.declared.law.TheConstants.{MAX_BALANCE}
use Rattle.line_accounts.specs.declared.answer.Reply.{Reply}
use Rattle.line_accounts.specs.declared.answer.Reply.TheVariants.{Done, Short, Over, Late, Closed, Busy, NoAccount, SameAccount}
use Rattle.qolb_script.specs.declared.job.Job.{Job}
use Rattle.qolb_script.specs.declared.job.Job.TheVariants.{Put, Take, PayIn, PayOut, Move}
use Rattle.qolb_script.specs.declared.report.Report.{Report}
use Rattle.qolb_script.specs.declared.report.Report.TheVariants.{Bank}
use Rattle.qolb_work.specs.Jobs.{jobs_of}

-- the replies that end a job, so that the job is not tried again
abbrev pub is_outcome : Reply → Bool
is_outcome Done = true
is_outcome Short = true
is_outcome Over = true
is_outcome SameAccount = true
is_outcome NoAccount = false
is_outcome Late = false
is_outcome Busy = false
is_outcome Closed = false

-- the amounts that a job with this reply paid in, and paid out. The amount is 0 unless the job is a payment of this
-- kind and was done
abbrev pub paid_in_of : Job → Reply → ℕ
paid_in_of (PayIn worker account amount) Done = amount
paid_in_of _ _ = 0

abbrev pub paid_out_of : Job → Reply → ℕ
paid_out_of (PayOut worker account amount) Done = amount
paid_out_of _ _ = 0

-- the sums of the amounts paid in, and paid out, by a list of jobs with these outcomes
abbrev pub paid_in_by : List Job → List Reply → ℕ
paid_in_by [] replies = 0
paid_in_by (job ∷ jobs) [] = 0
paid_in_by (job ∷ jobs) (reply ∷ replies) = paid_in_of job reply + paid_in_by jobs replies

abbrev pub paid_out_by : List Job → List Reply → ℕ
paid_out_by [] replies = 0
paid_out_by (job ∷ jobs) [] = 0
paid_out_by (job ∷ jobs) (reply ∷ replies) = paid_out_of job reply + paid_out_by jobs replies

-- the sums of the amounts paid in, and paid out, by the jobs of all workers. Each list of outcomes belongs to one
-- worker: the first to worker `first`, the next to worker `first + 1`, and so on
abbrev pub all_in_by : ℕ → List Job → List (List Reply) → ℕ
all_in_by first jobs [] = 0
all_in_by first jobs (replies ∷ others) = paid_in_by (jobs_of first jobs) replies + all_in_by (first + 1) jobs others

abbrev pub all_out_by : ℕ → List Job → List (List Reply) → ℕ
all_out_by first jobs [] = 0
all_out_by first jobs (replies ∷ others) = paid_out_by (jobs_of first jobs) replies + all_out_by (first + 1) jobs others

-- `payment_in` is the amount that a job is meant to pay in. `amount_in` is the amount that a job is meant to add to an
-- account, by a payment in or by a move
abbrev pub payment_in : Job → ℕ
payment_in (PayIn worker account amount) = amount
payment_in (PayOut worker account amount) = 0
payment_in (Move worker source target amount) = 0
payment_in (Put worker task) = 0
payment_in (Take worker) = 0

abbrev pub amount_in : Job → ℕ
amount_in (PayIn worker account amount) = amount
amount_in (PayOut worker account amount) = 0
amount_in (Move worker source target amount) = amount
amount_in (Put worker task) = 0
amount_in (Take worker) = 0

-- `payments_in` is the sum of all payments in among these jobs, and `amounts_in` also includes all moves
abbrev pub payments_in : List Job → ℕ
payments_in jobs = sum_by payment_in jobs

abbrev pub amounts_in : List Job → ℕ
amounts_in jobs = sum_by amount_in jobs

-- Each job of these workers has one outcome, and the payments add up to `paid_in` and `paid_out`. The workers have the
-- numbers `first`, `first + 1`, and so on.
pub record ComesTo (first workers : ℕ) (jobs : List Job) (paid_in paid_out : ℕ) : Type 0 where
  pub replies : List (List Reply)
  pub workers_are : length replies ≡ workers
  pub len : (k : ℕ) (own : List Reply) → slice_get replies k ≡ Some own → length own ≡ length (jobs_of (first + k) jobs)
  pub outcomes : (k : ℕ) (own : List Reply) → slice_get replies k ≡ Some own → All (λ reply. is_outcome reply ≡ true) own
  pub in_is : paid_in ≡ all_in_by first jobs replies
  pub out_is : paid_out ≡ all_out_by first jobs replies

-- the balances of all accounts, with the balance of one account replaced
abbrev pub with_balance : (ℕ → ℕ) → ℕ → ℕ → ℕ → ℕ
with_balance balances account balance other = if other == account then balance else balances other

-- The outcome of a job that one owner does at these balances. A payment out of an account, or a move from it, is
-- `Short` if the balance is less than the amount. A payment or a move into an account is `Over` if the balance would
-- exceed the limit.
abbrev pub outcome_at : (ℕ → ℕ) → Job → Reply
outcome_at balances (PayIn worker account amount) = if nat_lt MAX_BALANCE (balances account + amount) then Over else Done
outcome_at balances (PayOut worker account amount) = if nat_lt (balances account) amount then Short else Done
outcome_at balances (Move worker source target amount) =
    if source == target then SameAccount
    else if nat_lt (balances source) amount then Short
    else if nat_lt MAX_BALANCE (balances target + amount) then Over
    else Done
outcome_at balances (Put worker task) = NoAccount
outcome_at balances (Take worker) = NoAccount

-- the balances after a job with this outcome. Only a job that is done changes them
abbrev pub balances_after : (ℕ → ℕ) → Job → Reply → ℕ → ℕ
balances_after balances (PayIn worker account amount) Done = with_balance balances account (balances account + amount)
balances_after balances (PayOut worker account amount) Done = with_balance balances account (balances account - amount)
balances_after balances (Move worker source target amount) Done =
    with_balance (with_balance balances source (balances source - amount)) target (balances target + amount)
balances_after balances job reply = balances

-- a bank with one owner: the balance of each account, and the sums that have been paid in and out so far
pub record BankRun : Type 0 where
  pub balances : ℕ → ℕ
  pub paid_in : ℕ
  pub paid_out : ℕ

abbrev pub after_reply : BankRun → Job → Reply → BankRun
after_reply run job reply = record {
  balances = balances_after run.balances job reply;
  paid_in = run.paid_in + paid_in_of job reply;
  paid_out = run.paid_out + paid_out_of job reply;
}

abbrev pub after_job : BankRun → Job → BankRun
after_job run job = after_reply run job (outcome_at run.balances job)

-- the bank after one owner has done these jobs in order
abbrev pub after_jobs : BankRun → List Job → BankRun
after_jobs run [] = run
after_jobs run (job ∷ jobs) = after_jobs (after_job run job) jobs

-- a bank whose accounts are all empty, before the first job
abbrev pub empty_bank : BankRun
empty_bank = record { balances = λ account. 0; paid_in = 0; paid_out = 0 }

-- the report of such a bank: the sum paid in, the sum paid out, and their difference
abbrev pub report_of : BankRun → Report
report_of run = Bank run.paid_in run.paid_out (run.paid_in - run.paid_out)
