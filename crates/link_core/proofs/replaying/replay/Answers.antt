use Rattle.std.proofs.Common.{ℕ, None, refl, inr}
use Rattle.line_lanes.specs.declared.line.Line64.{Line64}
use Rattle.qolb_model.specs.declared.config.LineConfig.{LineConfig}
use Rattle.link_core.proofs.Steady.{run_start, run_step, run_end, run_stops}
use Rattle.link_core.proofs.replaying.replay.Goals as goal

abbrev config_of : ℕ → Line64 → LineConfig
config_of nodes opening = record { nodes = nodes; opening = opening; lease = None }

pub loop-i-init : goal.loop-i-init
loop-i-init c = run_start (config_of c.args.nodes c.args.opening) c.args.events.now c.in-Some.core c.in-Some.ensures.shows.matches.opened c.in-Some.ensures.state

pub loop-i-preserved : goal.loop-i-preserved
loop-i-preserved c = run_step (config_of c.args.nodes c.args.opening) c.args.events.now c.loop-i.i _ c.loop-i.core c.step.new.self c.in_default-step.field-0 c.loop-i-test.true c.loop-i.invariant c.in_default-step.ensures.shows

pub returns : goal.returns
returns c =
    let r = run_end (config_of c.args.nodes c.args.opening) c.args.events.now c.loop-i.i c.loop-i.core c.loop-i-test.false c.loop-i.invariant in
    record { ok = (c.in-Some.ensures.valid.0 refl, r.0, r.1, r.2.legal, r.2); err = tt }

pub returns-in-Err-clause-err : goal.returns-in-Err-clause-err
returns-in-Err-clause-err c = inr (c.in-Some.ensures.valid.0 refl, run_stops (config_of c.args.nodes c.args.opening) c.args.events.now c.loop-i.i _ c.loop-i.core c.in-Err.refusal c.loop-i-test.true c.loop-i.invariant c.in-Err.ensures.refused)
