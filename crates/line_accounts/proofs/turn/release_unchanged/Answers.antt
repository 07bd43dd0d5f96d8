use Rattle.std.proofs.Common.{List, ℕ, sym, subst}
use Rattle.line_accounts.specs.Accounts.{AreBalances}
use Rattle.line_accounts.proofs.Visits.{balances_known}
use Rattle.line_accounts.proofs.turn.release_unchanged.Goals as goal

pub deqolb-requires-clause-allowed : goal.deqolb-requires-clause-allowed
deqolb-requires-clause-allowed g c =
    let good = balances_known _ _ _ (g.met.L.LineSync.sound c.args.line.now c.args.port.now c.requires.belongs) in
    (good, subst (λ (b : List ℕ). AreBalances b) (sym c.requires.granted.bytes) good)
