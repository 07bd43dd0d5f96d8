use Rattle.std.proofs.Common.{rules}
use Rattle.line_cells.proofs.Turning.{goes_trans, goes_reset}
use Rattle.ring_line.proofs.release.try_reset.Goals as goal

pub returns-clause-advances : goal.returns-clause-advances
returns-clause-advances g c = record {
  seat = search rules;
  advances = goes_trans g.K.Keep.allows c.args.seat.now.me c.load_node.new.seat.me c.reset.new.seat.me 1 1 c.load_node.ensures.advances.advances (goes_reset g.K.Keep.allows c.load_node.new.seat.me c.reset.new.seat.me c.reset.ensures.reset);
}
