use Rattle.std.proofs.Common.{◌≡◌, ◌≢◌, ◌<◌, ℕ, slice_get, Some}
use Rattle.line_accounts.specs.Desks.{DeskOf}
use Rattle.line_accounts.proofs.settlement.is_there.Given as goal

abbrev pub invariant-loop-desk : goal.invariant-loop-desk
invariant-loop-desk g l = (k : ℕ) (desk : DeskOf g.row.L-Port.Denot) (port : g.row.L-Port.Denot) → k < l.desk-index → slice_get l.desks k ≡ Some desk → slice_get desk.ports l.i ≡ Some port → (g.L.LineSync.view port).node ≢ l.node
