use Rattle.std.proofs.Common.{is_ok}
use Rattle.std.specs.Vec.Iter.{into_iter_items}
use Rattle.std.proofs.lemmas.List.Elements.{All-rest}
use Rattle.line_accounts.specs.Desks.{DeskOf, IsDeskOver}
use Rattle.test_programs.specs.declared.transfers.Customer.{Customer}
use Rattle.line_accounts.proofs.Columns.{all_first}
use Rattle.test_programs.proofs.Each.{all_pushed}
use Rattle.test_programs.proofs.transfers.unseat.Goals as goal

pub loop-customer-preserved : goal.loop-customer-preserved
loop-customer-preserved g c =
    let own = all_first (λ (customer : Customer g.row.L.Denot g.row.L-Port.Denot). IsDeskOver g.L.LineSync.belongs g.L.LineSync.view c.args.lines.now.items customer.desk) c.in-Some.customer (into_iter_items c.next.new.self) (into_iter_items c.loop-customer.customer-iterator) c.in-Some.ensures.steps.0 c.loop-customer.invariant.0 in (
      All-rest (λ (customer : Customer g.row.L.Denot g.row.L-Port.Denot). IsDeskOver g.L.LineSync.belongs g.L.LineSync.view c.args.lines.now.items customer.desk) c.in-Some.customer (into_iter_items c.next.new.self) (into_iter_items c.loop-customer.customer-iterator) c.in-Some.ensures.steps.0 c.loop-customer.invariant.0,
      all_pushed (λ (desk : DeskOf g.row.L-Port.Denot). IsDeskOver g.L.LineSync.belongs g.L.LineSync.view c.args.lines.now.items desk) (is_ok c.push.result) c.loop-customer.desks.items c.push.new.self.items c.in-Some.customer.desk c.push.ensures.items c.loop-customer.invariant.1 own,
    )
