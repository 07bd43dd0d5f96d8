use Rattle.std.proofs.Common.{sym, ◌∙◌}
use Rattle.qolb_work.proofs.OneKind.{board_banked, bank_boarded}
use Rattle.qolb_work.proofs.work.run_work_over.Goals as goal

pub returns-in-Board-clause-banked : goal.returns-in-Board-clause-banked
returns-in-Board-clause-banked g c = board_banked g.A.LineSync.belongs g.A.LineSync.view g.A.LineSync.config_of c.args.work.now c.run_board.result (sym c.kind.ensures ∙ c.in-Board.is) c.run_board.ensures.report

pub returns-in-Bank-clause-boarded : goal.returns-in-Bank-clause-boarded
returns-in-Bank-clause-boarded g c = bank_boarded g.B.LineSync.belongs g.B.LineSync.view g.B.LineSync.config_of c.args.work.now c.run_bank.result (sym c.kind.ensures ∙ c.in-Bank.is) c.run_bank.ensures.report
