use Rattle.std.proofs.Common.{◌≡◌, ◌<◌, ℕ, slice_get, Some}
use Rattle.qolb_model.specs.Finishing.{EachNode}
use Rattle.line_accounts.specs.Settled.{HasPort}
use Rattle.line_accounts.proofs.settlement.find_missing.Given as goal

abbrev pub invariant-loop-i : goal.invariant-loop-i
invariant-loop-i g l = (j : ℕ) (line : g.row.L.Denot) → j < l.i → slice_get l.lines j ≡ Some line → EachNode (g.L.LineSync.config_of line).nodes (HasPort g.L.LineSync.view l.desks j)
