use Rattle.std.proofs.Common.{All}
use Rattle.line_accounts.specs.NewDesks.{IsNewPort}
use Rattle.test_programs.proofs.tests.desks.eight_lines.Given as goal

abbrev pub invariant-loop : goal.invariant-loop
invariant-loop g l = All (λ line. All (IsNewPort g.L.LineSync.belongs g.L.LineSync.view line.0) line.1.items) l.lines.items
