use Rattle.std.proofs.Common.{◌≡◌, ◌+◌, ◌++◌, All, length, drop, map, Vec, Global}
use Rattle.std.specs.Vec.Iter.{into_iter_items}
use Rattle.line_accounts.specs.NewDesks.{IsNewPort, IsColumn, IsUnpaid, AreEnough}
use Rattle.line_accounts.specs.Desks.{DeskOf, IsDeskOver}
use Rattle.line_accounts.proofs.Columns.{HaveDealt}
use Rattle.line_accounts.proofs.desks.distribute_ports.Given as goal

abbrev pub invariant-loop-line : goal.invariant-loop-line
invariant-loop-line g l = record {
  left : All (λ line. All (IsNewPort g.L.LineSync.belongs g.L.LineSync.view line.0) line.1.items) (into_iter_items l.line-iterator);
  enough : AreEnough l.count (into_iter_items l.line-iterator);
  given : l.lines.items ++ map (λ line. line.0) (into_iter_items l.line-iterator) ≡ map (λ line. line.0) l.fn.opened.items;
  columns : All (λ ports. IsColumn g.L.LineSync.belongs g.L.LineSync.view l.lines.items ports.items) l.columns.items;
  many : length l.columns.items ≡ l.count;
  rest : into_iter_items l.line-iterator ≡ drop (length l.lines.items) l.fn.opened.items;
  dealt : HaveDealt l.fn.opened.items (length l.lines.items) l.columns.items;
}

abbrev pub invariant-loop-ports : goal.invariant-loop-ports
invariant-loop-ports g l = record {
  left : All (λ ports. IsColumn g.L.LineSync.belongs g.L.LineSync.view l.lines.items ports.items) (into_iter_items l.ports-iterator);
  over : All (IsDeskOver g.L.LineSync.belongs g.L.LineSync.view l.lines.items) l.desks.items;
  unpaid : All IsUnpaid l.desks.items;
  many : length l.desks.items + length (into_iter_items l.ports-iterator) ≡ l.count;
  dealt : map (λ (desk : DeskOf g.row.L-Port.Denot). desk.ports) l.desks.items ++ map (λ (ports : Vec g.row.L-Port.Denot Global). ports.items) (into_iter_items l.ports-iterator) ≡ map (λ (ports : Vec g.row.L-Port.Denot Global). ports.items) (into_iter_items l.initial.ports-iterator);
}
