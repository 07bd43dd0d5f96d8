use Rattle.std.proofs.Common.{arith, ap, ◌∙◌}
use Rattle.qolb_draw.proofs.Pushing.{head_pushed, head_left_out}
use Rattle.qolb_draw.proofs.heads.push_heads.Goals as goal
use Rattle.qolb_draw.proofs.heads.push_heads.Goals.{then-value-last+in_ok-push_head, else-value-last}

pub loop-value-preserved : goal.loop-value-preserved
loop-value-preserved g c = elim c.if-value-last.branch [
  | then-value-last+in_ok-push_head w ↦ head_pushed _ _ _ _ _ _ _ _ _ c.loop-value.invariant (omega arith) w.if-value-last.true (ap (λ v. v.items) w.text-is ∙ w.in_ok-push_head.ensures)
  | else-value-last w ↦ head_left_out _ _ _ _ _ _ _ _ _ c.loop-value.invariant (omega arith) w.if-value-last.false (ap (λ v. v.items) w.text-is)
]
