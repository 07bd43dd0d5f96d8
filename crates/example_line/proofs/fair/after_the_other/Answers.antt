use Rattle.std.proofs.Common.{ap, sym, ◌∙◌, arith}
use Rattle.qolb_model.specs.declared.config.LineConfig.{LineConfig}
use Rattle.example_line.proofs.fair.after_the_other.Goals as goal

-- fewer requests ended than the line has nodes, which are two
pub returns-clause-one_turn : goal.returns-clause-one_turn
returns-clause-one_turn g c got =
    let soon = c.acquire.ensures.soon got in
    let sound = g.met.L.LineSync.sound c.args.line.now c.acquire.new.port c.acquire.ensures.belongs in
    let nodes = ap (λ (t : LineConfig). t.nodes) (sym soon.advances.config ∙ sound.config_is) ∙ c.requires.two in
    (soon.asked, soon.unlooked, soon.asks, omega (arith, soon.bounded_bypass, nodes))
