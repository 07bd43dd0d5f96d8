use Rattle.std.proofs.Common.{◌≡◌, length, drop, ap, ◌∙◌}
use Rattle.line_lanes.specs.declared.line.Line64.{Line64}
use Rattle.line_lanes.proofs.Masked.{merged-all}
use Rattle.qolb_model.specs.declared.write.Write.{Write}
use Rattle.example_line.proofs.capacity.sell_one.Goals as goal

pub returns-then-sold-lt-SEATS-clause-others : goal.returns-then-sold-lt-SEATS-clause-others
returns-then-sold-lt-SEATS-clause-others g c =
    let long : length c.with_lane.result.bytes ≡ 64 = search in
    ap (λ (w : Write). drop 8 w.bytes.bytes) c.write.ensures.turn
    ∙ ap (drop 8) (merged-all (g.L.LineSync.turn c.args.port.now).bytes.bytes c.with_lane.result.bytes long ∙ c.with_lane.ensures)
    ∙ ap (λ (line : Line64). drop 8 line.bytes) c.bytes.ensures.bytes
    ∙ ap (drop 8) c.requires.bytes
