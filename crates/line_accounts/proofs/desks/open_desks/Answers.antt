use Rattle.std.proofs.Common.{◌≤◌, Vec, Global, vec_len, sym}
use Rattle.std.proofs.lemmas.List.Elements.{All-same}
use Rattle.line_accounts.proofs.desks.open_desks.Goals as goal

pub distribute_ports-requires-clause-enough : goal.distribute_ports-requires-clause-enough
distribute_ports-requires-clause-enough g c = All-same (λ (line : g.row.L.Denot × Vec g.row.L-Port.Denot Global). c.args.count ≤ vec_len line.1) _ _ (sym c.deref.ensures.value) c.in_default.ensures

pub returns-in-Err-clause-why : goal.returns-in-Err-clause-why
returns-in-Err-clause-why g c = All-same (λ (line : g.row.L.Denot × Vec g.row.L-Port.Denot Global). c.args.count ≤ vec_len line.1) _ _ (sym c.deref.ensures.value) c.in_default.ensures

pub returns-in-Ok-clause-unpaid : goal.returns-in-Ok-clause-unpaid
returns-in-Ok-clause-unpaid g c = c.in-Ok.ensures.unpaid
