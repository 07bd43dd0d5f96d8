use Rattle.std.proofs.Common.{◌+◌, ap, ◌∙◌}
use Rattle.link_core.specs.State.{point}
use Rattle.qolb_draw.specs.StepPictures.{letter_at}
use Rattle.qolb_draw.proofs.StepTexts.{listed}
use Rattle.qolb_draw.proofs.step_text.push_letters.Goals as goal

pub loop-before-preserved : goal.loop-before-preserved
loop-before-preserved g c =
    listed (λ k. letter_at (point c.args.core.now (k + 1))) c.args.text.now.items c.loop-before.before c.loop-before.text.items _ c.letter_at.result c.loop-before.invariant (c.letter_at.ensures ∙ ap letter_at c.point.ensures) c.in_ok-push.ensures.items
