use Rattle.line_accounts.specs.Desks.{IsDeskOver}
use Rattle.test_programs.proofs.transfers.move_on.Given as goal

abbrev pub invariant-loop : goal.invariant-loop
invariant-loop g l = IsDeskOver g.L.LineSync.belongs g.L.LineSync.view l.lines l.desk
