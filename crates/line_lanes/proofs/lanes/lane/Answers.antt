use Rattle.std.proofs.Common.{◌≤◌, ◌*◌, ◌-◌, arith, drop, ap, ◌∙◌}
use Rattle.std.proofs.lemmas.List.{take-take}
use lib.Lanes.{number_l}
use Rattle.line_lanes.proofs.lanes.lane.Goals as goal

pub returns : goal.returns
returns c =
    let rest = drop (8 * c.args.k) c.args.line.now.bytes in
    let left : 8 ≤ 64 - 8 * c.args.k = omega arith in
    c.number_of.ensures ∙ ap (number_l 256) (take-take 8 (64 - 8 * c.args.k) rest left)
