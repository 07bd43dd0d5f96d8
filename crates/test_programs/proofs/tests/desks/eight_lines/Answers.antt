use Rattle.std.proofs.Common.{All, Vec, Global, is_ok}
use Rattle.line_accounts.specs.NewDesks.{IsNewPort}
use Rattle.test_programs.proofs.NewPorts.{no_money}
use Rattle.test_programs.proofs.Each.{all_pushed}
use Rattle.test_programs.proofs.tests.desks.eight_lines.Goals as goal

pub open_zeros-requires : goal.open_zeros-requires
open_zeros-requires g c = no_money

pub loop-preserved : goal.loop-preserved
loop-preserved g c = all_pushed (λ (line : g.row.L.Denot × Vec g.row.L-Port.Denot Global). All (IsNewPort g.L.LineSync.belongs g.L.LineSync.view line.0) line.1.items) (is_ok c.push.result) c.loop.lines.items c.push.new.self.items c.in_ok-opened.opened c.push.ensures.items c.loop.invariant c.in_ok-opened.ensures
