-- Lemmas about reports: the clause about the lines of a bank holds trivially for the report of a board, and the clause
-- about the line of a board holds trivially for the report of a bank.
use Rattle.std.proofs.Common.{◌≡◌, sym, ◌∙◌, IfOk, Result, Ok, Err}
use Rattle.qolb_model.specs.declared.config.LineConfig.{LineConfig}
use Rattle.qolb_model.specs.declared.view.View.{View}
use Rattle.qolb_script.specs.declared.job.WorkKind.TheVariants.{Board, Bank}
use Rattle.qolb_script.specs.declared.report.Report.{Report}
use Rattle.qolb_script.specs.declared.report.Report.TheVariants as report
use Rattle.qolb_script.specs.WorkScript.{WorkScript}
use Rattle.qolb_work.specs.Reports.{IsReportOf}
use Rattle.qolb_work.specs.BankWork.{IsBankedOver}
use Rattle.qolb_work.specs.BoardWork.{IsBoardedOver}

-- The clause about a bank's lines says nothing about the report of a board.
pub board_banked : {Line Port E : Type 0} (belongs : Line → Port → Type 0) (view : Port → View) (config_of : Line → LineConfig) (work : WorkScript) (r : Result Report E) → work.kind ≡ Board → IfOk r (IsReportOf work) → IfOk r (IsBankedOver belongs view config_of work)
board_banked belongs view config_of work (Ok (report.Board stored full taken empty left)) of_board is = tt
board_banked belongs view config_of work (Ok (report.Bank paid_in paid_out total)) of_board is = absurd (let no : Board ≡ Bank = sym of_board ∙ is.of_bank in cc no)
board_banked belongs view config_of work (Err error) of_board is = tt

-- The clause about a board's line says nothing about the report of a bank.
pub bank_boarded : {Line Port E : Type 0} (belongs : Line → Port → Type 0) (view : Port → View) (config_of : Line → LineConfig) (work : WorkScript) (r : Result Report E) → work.kind ≡ Bank → IfOk r (IsReportOf work) → IfOk r (IsBoardedOver belongs view config_of work)
bank_boarded belongs view config_of work (Ok (report.Bank paid_in paid_out total)) of_bank is = tt
bank_boarded belongs view config_of work (Ok (report.Board stored full taken empty left)) of_bank is = absurd (let no : Bank ≡ Board = sym of_bank ∙ is.of_board in cc no)
bank_boarded belongs view config_of work (Err error) of_bank is = tt
