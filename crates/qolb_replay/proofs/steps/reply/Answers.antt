use Rattle.std.proofs.Common.{◌≡◌, subst, sym, ap, ◌∙◌, rules}
use Rattle.line_lanes.specs.Line.{zeros}
use Rattle.link_core.specs.declared.event.Event.TheVariants.{Reset}
use Rattle.qolb_model.specs.declared.config.LineConfig.{LineConfig}
use Rattle.link_core.specs.State.{first}
use Rattle.qolb_replay.specs.StepRuns.{line_of}
use Rattle.qolb_replay.specs.Tallies.{no_counts}
use Rattle.qolb_replay.proofs.StepsRun.{Reaches, start_of, reaches_start, step_done}
use Rattle.qolb_replay.proofs.steps.reply.Goals as goal

pub loop-event-init : goal.loop-event-init
loop-event-init g c =
    let config : LineConfig = record { nodes = c.nodes.result; opening = c.zero.result; lease = c.lease.result } in
    let opening : c.zero.result ≡ record { bytes = zeros } = search rules in
    let is : config ≡ line_of c.args.steps.now = λ i. record { nodes = c.nodes.ensures.nodes i; opening = opening i; lease = c.lease.ensures.lease i } in
    let same : c.in-Some.core ≡ start_of c.args.steps.now = c.in-Some.ensures.state ∙ ap first is in
    subst (λ counts. Reaches c.args.detail c.args.steps.now 0 c.in-Some.core counts c.new-text.result.items) (sym c.none-counts.ensures)
    (subst (Reaches c.args.detail c.args.steps.now 0 c.in-Some.core no_counts) (sym c.new-text.ensures.items) (reaches_start c.args.detail c.args.steps.now c.in-Some.core same))

pub loop-event-preserved : goal.loop-event-preserved
loop-event-preserved g c =
    step_done c.args.detail c.args.steps.now c.loop-event.event-index c.loop-event.core c.step.new.self c.loop-event.counts c.add.new.self c.loop-event.text.items c.push_heard.new.text.items
    c.events-event-items.result.now (Reset 0) c.step.result c.ok-told.result c.said_of.result
    c.loop-event.invariant c.events-event-items.ensures.events c.loop-event-test.true c.step.ensures.step c.step.ensures.refused c.step.ensures.unchanged
    c.ok-told.ensures.value c.said_of.ensures c.add.ensures c.in_ok-push_heard.ensures.ok
