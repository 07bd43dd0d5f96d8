use Rattle.std.proofs.Common.{◌≡◌, ℕ, List, sym, ◌∙◌, ap}
use Rattle.line_lanes.specs.declared.line.Line64.{Line64}
use Rattle.link_core.specs.Steps.{write_line}
use Rattle.link_core.specs.Steps as row
use Rattle.link_core.proofs.state.State.write.Goals as goal

pub returns-in-Holding-clause-step : goal.returns-in-Holding-clause-step
returns-in-Holding-clause-step c =
    let line : List ℕ → Line64 = λ b. record { bytes = b } in
    let e : c.merge-self.result ≡ write_line c.args.self.now.bytes c.args.mask c.args.bytes = ap line c.merge-self.ensures in
    rw e (row.write c.args.n c.args.mask c.args.bytes c.requires.node (sym c.point.ensures ∙ c.in-Holding.is))
