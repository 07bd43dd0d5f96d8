use Rattle.std.proofs.Common.{◌∙◌, arith}
use Rattle.line_lanes.proofs.Placing.{written_over_zeros}
use Rattle.line_lanes.proofs.write.placed.Goals as goal

pub returns-clause-line : goal.returns-clause-line
returns-clause-line c = c.write_at.ensures ∙ written_over_zeros c.args.off c.args.bytes.now (omega arith)
