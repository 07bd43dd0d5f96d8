use Rattle.std.proofs.Common.{arith, ◌++◌, ◌∙◌}
use Rattle.std.proofs.lemmas.Simd.{pick_l_whole}
use Rattle.std.proofs.lemmas.List.{length-append}
use Rattle.line_lanes.proofs.half.joined.Goals as goal

pub returns : goal.returns
returns c = pick_l_whole 0 (c.args.low ++ c.args.high) 64 (length-append c.args.low c.args.high ∙ omega (arith, c.fits-low.0, c.fits-high.0))
