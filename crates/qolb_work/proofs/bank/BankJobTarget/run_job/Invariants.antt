use Rattle.std.proofs.Common.{length}
use Rattle.line_accounts.specs.Desks.{IsDeskOver}
use Rattle.qolb_work.specs.BankWork.{Tries}
use Rattle.qolb_work.proofs.bank.BankJobTarget.run_job.Given as goal

abbrev pub invariant-loop : goal.invariant-loop
invariant-loop g l = record {
  over : IsDeskOver g.L.LineSync.belongs g.L.LineSync.view l.self.lines.items l.desk;
  tries : Tries g.L.LineSync.view (length l.self.lines.items) l.job l.initial.desk l.desk;
}
