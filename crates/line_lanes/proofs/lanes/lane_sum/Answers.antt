use Rattle.std.proofs.Common.{ℕ, ◌≡◌, ◌<◌, ◌+◌, length, ap, ◌∙◌, arith}
use Rattle.std.specs.Prelude.{slice_index}
use Rattle.line_lanes.specs.Lane.{lane_of}
use Rattle.line_lanes.proofs.EachLane.{low_lane, high_lane}
use Rattle.line_lanes.proofs.lanes.lane_sum.Goals as goal

pub returns : goal.returns
returns c =
    let line = c.args.line.now.bytes in
    let long : length line ≡ 64 = omega arith in
    let low : (k : ℕ) → k < 4 → slice_index c.wide.result k ≡ lane_of line k = λ k h. c.wide.ensures k h ∙ ap (λ half. lane_of half k) c.halves.ensures.low ∙ low_lane line k long h in
    let high : (k : ℕ) → k < 4 → slice_index c.wide-2.result k ≡ lane_of line (4 + k) = λ k h. c.wide-2.ensures k h ∙ ap (λ half. lane_of half k) c.halves.ensures.high ∙ high_lane line k long in
    omega (
      arith,
      c.sum_of.ensures.total,
      c.sum_of-2.ensures.total,
      low 0 (omega arith),
      low 1 (omega arith),
      low 2 (omega arith),
      low 3 (omega arith),
      high 0 (omega arith),
      high 1 (omega arith),
      high 2 (omega arith),
      high 3 (omega arith),
    )
