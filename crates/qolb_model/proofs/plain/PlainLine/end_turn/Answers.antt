use Rattle.qolb_model.proofs.Waiting.{waiting_after, waiting_rest}
use Rattle.qolb_model.proofs.plain.PlainLine.end_turn.Goals as goal

pub invariant_of-self : goal.invariant_of-self
invariant_of-self c = (c.self.invariant.0, rw (c.pass.ensures, c.remove.ensures.items) (waiting_after _ _ (waiting_rest _ _ c.self.invariant.1)))
