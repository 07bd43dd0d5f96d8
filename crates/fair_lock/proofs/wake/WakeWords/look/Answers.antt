use Rattle.std.proofs.Common.{refl, arith}
use Rattle.fair_lock.proofs.wake.WakeWords.look.Goals as goal

pub load_new_seat-requires : goal.load_new_seat-requires
load_new_seat-requires c = ((let e = c.requires in let w = c.args.self.now.sized in omega arith), λ s _ _ _. (_, tt, refl))
