use Rattle.std.proofs.Common.{◌≡◌, ap, ◌∙◌, rules}
use Rattle.line_lanes.specs.Line.{zeros}
use Rattle.qolb_model.specs.declared.config.LineConfig.{LineConfig}
use Rattle.link_core.specs.State.{first}
use Rattle.qolb_replay.specs.StepRuns.{line_of}
use Rattle.qolb_draw.proofs.steps.opened.Goals as goal

pub returns-clause-core : goal.returns-clause-core
returns-clause-core g c =
    let config : LineConfig = record { nodes = c.nodes.result; opening = c.zero.result; lease = c.lease.result } in
    let opening : c.zero.result ≡ record { bytes = zeros } = search rules in
    let is : config ≡ line_of c.args.steps.now = λ i. record { nodes = c.nodes.ensures.nodes i; opening = opening i; lease = c.lease.ensures.lease i } in
    c.in-Some.ensures.state ∙ ap first is
