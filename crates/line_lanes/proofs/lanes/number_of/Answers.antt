use Rattle.std.proofs.Common.{◌^◌, arith, refl, w8, ap, ◌∙◌}
use Rattle.std.proofs.lemmas.Simd.{get_or_wider, below_from_Fits}
use Rattle.std.proofs.lemmas.List.{take_all}
use lib.Lanes.{number_l}
use Rattle.line_lanes.proofs.lanes.number_of.Goals as goal

pub returns : goal.returns
returns c =
    get_or_wider 256 8 (2 ^ 64) 1 c.args.bytes 0 refl (below_from_Fits w8 c.args.bytes c.fits-bytes.1) (omega arith)
    ∙ ap (number_l 256) (take_all 8 c.args.bytes (omega (arith, c.fits-bytes.0)))
