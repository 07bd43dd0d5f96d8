use Rattle.std.proofs.Common.{◌+◌, ◌==◌, ap, ◌∙◌}
use Rattle.std.specs.List.{list_any}
use Rattle.qolb_draw.proofs.Rows.{node_shown, node_left_out}
use Rattle.qolb_draw.proofs.text.shown.Goals as goal
use Rattle.qolb_draw.proofs.text.shown.Goals.{then-contains+in_ok-push, else-contains}

pub loop-before-preserved : goal.loop-before-preserved
loop-before-preserved g c = elim c.if-contains.branch [
  | then-contains+in_ok-push w ↦ node_shown _ c.args.grid.now.callers.items _ _ c.contains.result c.loop-before.invariant (c.contains.ensures.value ∙ ap (list_any (λ m. m == c.loop-before.before + 1)) c.deref.ensures.value) w.if-contains.true (ap (λ v. v.items) w.nodes-is ∙ w.in_ok-push.ensures.items)
  | else-contains w ↦ node_left_out _ c.args.grid.now.callers.items _ _ c.contains.result c.loop-before.invariant (c.contains.ensures.value ∙ ap (list_any (λ m. m == c.loop-before.before + 1)) c.deref.ensures.value) w.if-contains.false (ap (λ v. v.items) w.nodes-is)
]
