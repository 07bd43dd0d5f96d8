use Rattle.std.proofs.Common.{All}
use Rattle.std.specs.Vec.Iter.{into_iter_items}
use Rattle.line_accounts.specs.Desks.{IsDeskOver}
use Rattle.test_programs.proofs.transfers.unseat.Given as goal

abbrev pub invariant-loop-customer : goal.invariant-loop-customer
invariant-loop-customer g l =
    All (λ customer. IsDeskOver g.L.LineSync.belongs g.L.LineSync.view l.lines.items customer.desk) (into_iter_items l.customer-iterator)
    × All (IsDeskOver g.L.LineSync.belongs g.L.LineSync.view l.lines.items) l.desks.items
