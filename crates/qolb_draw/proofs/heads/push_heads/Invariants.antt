use Rattle.qolb_draw.proofs.Pushing.{HasHeads}
use Rattle.qolb_draw.proofs.heads.push_heads.Given as goal

abbrev pub invariant-loop-value : goal.invariant-loop-value
invariant-loop-value g l = HasHeads l.margin l.numbers l.last l.value-items l.fn.text.items l.value-index l.text.items
