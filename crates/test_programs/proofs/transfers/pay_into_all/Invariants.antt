use Rattle.line_accounts.specs.Desks.{IsDeskOver}
use Rattle.test_programs.proofs.transfers.pay_into_all.Given as goal

abbrev pub invariant-loop-account : goal.invariant-loop-account
invariant-loop-account g l = IsDeskOver g.L.LineSync.belongs g.L.LineSync.view l.lines l.desk
