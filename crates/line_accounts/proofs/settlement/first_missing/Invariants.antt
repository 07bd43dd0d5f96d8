use Rattle.std.proofs.Common.{◌<◌, ◌≤◌, ◌+◌, ℕ}
use Rattle.line_accounts.specs.Settled.{HasPort}
use Rattle.line_accounts.proofs.settlement.first_missing.Given as goal

abbrev pub invariant-loop-before : goal.invariant-loop-before
invariant-loop-before g l = (m : ℕ) → 1 ≤ m → m < l.before + 1 → HasPort g.L.LineSync.view l.desks l.i m
