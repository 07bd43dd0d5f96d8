use Rattle.std.proofs.Common.{[], ◌+◌}
use Rattle.link_core.specs.State.{entry}
use Rattle.qolb_draw.proofs.StepTexts.{listed}
use Rattle.qolb_draw.proofs.step_event.entries_of.Goals as goal

pub loop-before-preserved : goal.loop-before-preserved
loop-before-preserved g c = listed (λ k. entry c.args.core.now (k + 1)) [] c.loop-before.before c.loop-before.entries.items _ c.entry.result c.loop-before.invariant c.entry.ensures c.in_ok-push.ensures.items
