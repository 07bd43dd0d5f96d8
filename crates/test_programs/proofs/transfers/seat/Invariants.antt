use Rattle.std.proofs.Common.{All}
use Rattle.std.specs.Vec.Iter.{into_iter_items}
use Rattle.line_accounts.specs.Desks.{IsDeskOver}
use Rattle.test_programs.proofs.transfers.seat.Given as goal

abbrev pub invariant-loop-desk : goal.invariant-loop-desk
invariant-loop-desk g l =
    All (IsDeskOver g.L.LineSync.belongs g.L.LineSync.view l.lines.items) (into_iter_items l.desk-iterator)
    × All (λ customer. IsDeskOver g.L.LineSync.belongs g.L.LineSync.view l.lines.items customer.desk) l.customers.items
