use Rattle.std.proofs.Common.{length}
use Rattle.line_accounts.proofs.Settlements.{IsLeft, IsRest, AddsUp, IsBounded}
use Rattle.line_accounts.proofs.settlement.finish_all.Given as goal

abbrev pub invariant-loop-line : goal.invariant-loop-line
invariant-loop-line g l = record {
  left : IsLeft g.L.LineSync.belongs g.L.LineSync.view g.L.LineSync.config_of l.lines.items l.desks.items;
  rest : IsRest g.L.LineSync.belongs g.L.LineSync.view g.L.LineSync.label_of g.L.LineSync.config_of l.fn.lines.items l.fn.desks.items l.lines.items l.desks.items;
  adds_up : AddsUp g.L.LineSync.view g.L.LineSync.config_of l.fn.lines.items l.lines.items l.fn.desks.items l.desks.items l.total;
  bounded : IsBounded (length l.fn.lines.items) (length l.lines.items) l.total;
}

abbrev pub decreases-loop-line : goal.decreases-loop-line
decreases-loop-line g l = length l.lines.items
