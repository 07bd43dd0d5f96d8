use Rattle.std.proofs.Common.{◌^◌, refl, w8}
use Rattle.std.proofs.lemmas.Simd.{get_or_wider, below_from_Fits}
use Rattle.line_lanes.proofs.lanes.wide.Goals as goal

pub returns : goal.returns
returns c k h = get_or_wider 256 8 (2 ^ 64) 4 c.args.half k refl (below_from_Fits w8 c.args.half c.fits-half.1) h
