use Rattle.std.proofs.Common.{arith, ◌≡◌, ◌+◌, ◌-◌, ◌<◌, map, length, ap, ◌∙◌}
use Rattle.std.proofs.lemmas.List.{length-map}
use Rattle.line_blocking.specs.ViewAndTurn.{view_and_turn}
use Rattle.qolb_model.specs.Whole.{seen}
use Rattle.qolb_replay.proofs.Forcing.{state_seen}
use Rattle.qolb_replay.proofs.line.PortedLineReplayLine.state.Goals as goal

pub returns : goal.returns
returns g c = λ s whole.
    let n : c.args.node - 1 + 1 ≡ c.args.node = omega (arith, c.requires.first) in
    let many : length (map (view_and_turn g.L.LineSync.view g.L.LineSync.turn) c.self.inside.ports.items) ≡ length c.self.inside.ports.items = length-map c.self.inside.ports.items (view_and_turn g.L.LineSync.view g.L.LineSync.turn) in
    let line : length (map (view_and_turn g.L.LineSync.view g.L.LineSync.turn) c.self.inside.ports.items) ≡ length c.args.self.now = ap length c.self.view_is in
    let lt : c.args.node - 1 < length c.self.inside.ports.items = omega (arith, many, line, c.requires.first, c.requires.last) in
    ap seen c.state.ensures.state ∙ ap (λ p. seen (g.L.LineSync.view p).state) c.index.ensures
    ∙ state_seen g.L.LineSync.view g.L.LineSync.turn s c.args.self.now c.self.inside.ports.items c.self.view_is whole (c.args.node - 1) c.index.result.now lt c.args.node n
