use Rattle.std.proofs.Common.{inr}
use Rattle.line_accounts.proofs.Visits.{took}
use Rattle.line_accounts.proofs.between_lines.ask_both.Goals as goal

pub returns-in-Err-clause-refused : goal.returns-in-Err-clause-refused
returns-in-Err-clause-refused g c =
    inr (_, took _ _ _ _ _ c.in_ok-ask.ensures.holds c.release_unchanged.ensures.leaves, c.in-Err.ensures.refused)
