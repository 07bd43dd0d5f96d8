use Rattle.std.proofs.Common.{◌≡◌, All, [], length}
use Rattle.line_accounts.proofs.desks.no_ports.Given as goal

abbrev pub invariant-loop-column : goal.invariant-loop-column
invariant-loop-column g l = All (λ ports. ports.items ≡ []) l.columns.items × (length l.columns.items ≡ l.column)
