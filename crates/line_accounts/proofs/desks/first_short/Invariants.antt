use Rattle.std.proofs.Common.{◌≡◌, ◌<◌, ◌≤◌, ℕ, Vec, Global, vec_len, slice_get, Some}
use Rattle.line_accounts.proofs.desks.first_short.Given as goal

abbrev pub invariant-loop-i : goal.invariant-loop-i
invariant-loop-i g l = (j : ℕ) (line : g.row.L.Denot × Vec g.row.P.Denot Global) → j < l.i → slice_get l.opened j ≡ Some line → l.count ≤ vec_len line.1
