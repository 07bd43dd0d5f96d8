use Rattle.std.proofs.Common.{◌≤◌, arith, length, take, drop, ◌∙◌}
use Rattle.std.proofs.lemmas.List.{take_all, length-drop, length-take}
use Rattle.line_lanes.proofs.half.halves.Goals as goal

pub returns-clause-high : goal.returns-clause-high
returns-clause-high c =
    let line = c.args.line.now.bytes in
    let rest : length (drop 32 line) ≤ 32 = omega (arith, length-drop 32 line) in
    let part : length (take 32 (drop 32 line)) ≤ 32 = omega (arith, length-take 32 (drop 32 line)) in
    take_all 32 (take 32 (drop 32 line)) part ∙ take_all 32 (drop 32 line) rest
