use Rattle.std.proofs.Common.{refl, arith}
use Rattle.atomic_table.specs.Table.{keeps}
use Rattle.fair_lock.proofs.wake.WakeWords.change.Goals as goal

pub fetch_add-requires : goal.fetch_add-requires
fetch_add-requires c = (c.look-step.ensures.table, (let e = c.requires in let w = c.args.self.now.sized in omega arith), λ s _ _ _ _. (_, keeps, tt, tt, refl))
