use Rattle.std.proofs.Common.{arith}
use Rattle.line_lanes.proofs.LaneTests.{each2_from}
use Rattle.line_lanes.proofs.lanes.added.Goals as goal

pub overflow_add-result : goal.overflow_add-result
overflow_add-result c = each2_from _ c.args.a c.args.b (omega (arith, c.fits-a.0, c.fits-b.0)) (λ k h. record { fits = c.requires k (omega (arith, h, c.fits-a.0)) })
