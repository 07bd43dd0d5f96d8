use Rattle.std.proofs.Common.{◌≡◌, ◌≤◌, ◌+◌, All, length, drop}
use Rattle.std.specs.Vec.Iter.{into_iter_items}
use Rattle.line_accounts.specs.NewDesks.{IsNewPort}
use Rattle.line_accounts.proofs.Columns.{IsAdding, IsGaining}
use Rattle.line_accounts.proofs.desks.add_line.Given as goal

abbrev pub invariant-loop-column : goal.invariant-loop-column
invariant-loop-column g l = record {
  adding : IsAdding g.L.LineSync.belongs g.L.LineSync.view l.lines.items l.line l.column-items l.column-index;
  ports : All (IsNewPort g.L.LineSync.belongs g.L.LineSync.view l.line) (into_iter_items l.ports);
  gaining : IsGaining l.fn.ports.items l.fn.columns.items l.column-items l.column-index;
  next : into_iter_items l.ports ≡ drop l.column-index l.fn.ports.items;
  enough : length l.column-items ≤ l.column-index + length (into_iter_items l.ports);
}
