use Rattle.std.proofs.Common.{ℕ, ◌+◌, ◌*◌, ◌++◌, List, length, take, drop, ap, ◌∙◌}
use Rattle.line_lanes.proofs.LaneBytes.{low_first}
use Rattle.line_lanes.proofs.lanes.set_lane.Goals as goal

pub returns-clause-line : goal.returns-clause-line
returns-clause-line c =
    let line = c.args.line.now.bytes in
    let off = 8 * c.args.k in
    c.write_at.ensures
    ∙ ap (λ (bs : List ℕ). take off line ++ (bs ++ drop (off + length bs) line)) (c.to_le_bytes.ensures ∙ low_first c.args.value)
