use Rattle.std.proofs.Common.{is_ok}
use Rattle.std.specs.Vec.Iter.{into_iter_items}
use Rattle.std.proofs.lemmas.List.Elements.{All-rest}
use Rattle.line_accounts.specs.Desks.{DeskOf, IsDeskOver}
use Rattle.line_accounts.proofs.Columns.{all_first}
use Rattle.test_programs.proofs.Each.{all_pushed}
use Rattle.test_programs.proofs.transfers.seat.Goals as goal

pub loop-desk-preserved : goal.loop-desk-preserved
loop-desk-preserved g c =
    let own = all_first (λ (desk : DeskOf g.row.L-Port.Denot). IsDeskOver g.L.LineSync.belongs g.L.LineSync.view c.args.lines.now.items desk) c.in-Some.desk (into_iter_items c.next.new.self) (into_iter_items c.loop-desk.desk-iterator) c.in-Some.ensures.steps.0 c.loop-desk.invariant.0 in (
      All-rest (λ (desk : DeskOf g.row.L-Port.Denot). IsDeskOver g.L.LineSync.belongs g.L.LineSync.view c.args.lines.now.items desk) c.in-Some.desk (into_iter_items c.next.new.self) (into_iter_items c.loop-desk.desk-iterator) c.in-Some.ensures.steps.0 c.loop-desk.invariant.0,
      all_pushed (λ customer. IsDeskOver g.L.LineSync.belongs g.L.LineSync.view c.args.lines.now.items customer.desk) (is_ok c.push.result) c.loop-desk.customers.items c.push.new.self.items _ c.push.ensures.items c.loop-desk.invariant.1 own,
    )
