-- What the numbers in a report say about the work that was done. The definitions in this file were made for this
-- project; none is taken from the literature.
use Rattle.std.specs.Prelude.{◌≡◌, ◌≤◌, ℕ, ◌+◌, List}
use Rattle.line_accounts.specs.declared.law.TheConstants.{MAX_BALANCE}
use Rattle.qolb_script.specs.declared.job.Job.{Job}
use Rattle.qolb_script.specs.declared.job.WorkKind.TheVariants as kind
use Rattle.qolb_script.specs.declared.report.Report.{Report}
use Rattle.qolb_script.specs.declared.report.Report.TheVariants.{Board, Bank}
use Rattle.qolb_script.specs.WorkScript.{WorkScript}
use Rattle.qolb_work.specs.Jobs.{puts_in, takes_in, IsInterleaving}
use Rattle.qolb_work.specs.BankRuns.{ComesTo, payments_in, amounts_in}
use Rattle.qolb_work.specs.BankRuns as bank
use Rattle.qolb_work.specs.BoardRuns.{after_jobs, empty_board, report_of}

-- This report results if one owner of a board, which is empty at first, does the jobs of all workers one after another
-- in some interleaving.
pub record IsDoneInTurn (work : WorkScript) (report : Report) : Type 0 where
  pub sequence : List Job
  pub interleaves : IsInterleaving work.jobs sequence
  pub report_is : report ≡ report_of (after_jobs empty_board sequence)

-- The report is that of one owner who did all jobs in some interleaving. It follows that each stored task was either
-- taken or left on the board, that each put either stored its task or found the board full, and that each take either
-- took a task or found none.
pub record IsOfBoard (work : WorkScript) (stored full taken empty left : ℕ) : Type 0 where
  pub of_board : work.kind ≡ kind.Board
  pub in_turn : IsDoneInTurn work (Board stored full taken empty left)
  pub kept : stored ≡ taken + left
  pub puts : stored + full ≡ puts_in work.jobs
  pub takes : taken + empty ≡ takes_in work.jobs

-- The report of a bank. Each job has one outcome. `paid_in` and `paid_out` are the sums of the payments that were done,
-- and all that was paid in was either paid out or is still in the bank. If the amounts of all payments in and all moves
-- together fit into one balance, every payment in was done, so `paid_in` is the sum of them all. If there is only one
-- worker, the report is that of one owner of empty accounts who does the jobs one after another.
pub record IsOfBank (work : WorkScript) (paid_in paid_out total : ℕ) : Type 0 where
  pub of_bank : work.kind ≡ kind.Bank
  pub comes_to : ComesTo 1 work.workers work.jobs paid_in paid_out
  pub kept : paid_in ≡ paid_out + total
  pub in_full : amounts_in work.jobs ≤ MAX_BALANCE → paid_in ≡ payments_in work.jobs
  pub alone : work.workers ≡ 1 → Bank paid_in paid_out total ≡ bank.report_of (bank.after_jobs bank.empty_bank work.jobs)

abbrev pub IsReportOf : WorkScript → Report → Type 0
IsReportOf work (Board stored full taken empty left) = IsOfBoard work stored full taken empty left
IsReportOf work (Bank paid_in paid_out total) = IsOfBank work paid_in paid_out total
