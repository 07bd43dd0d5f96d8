use Rattle.std.proofs.Common.{arith}
use Rattle.qolb_script.proofs.text.NumberedLinesIterator.next.Goals as goal

pub overflow_add-self : goal.overflow_add-self
overflow_add-self c = let fits = c.loop-self.self.fits _ c.in-Some.is in omega arith
