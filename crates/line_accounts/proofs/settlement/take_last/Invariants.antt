use Rattle.line_accounts.proofs.Settlements.{IsTaking}
use Rattle.line_accounts.proofs.settlement.take_last.Given as goal

abbrev pub invariant-loop-desk : goal.invariant-loop-desk
invariant-loop-desk g l = IsTaking l.fn.desks.items l.desk-items l.ports.items l.desk-index
