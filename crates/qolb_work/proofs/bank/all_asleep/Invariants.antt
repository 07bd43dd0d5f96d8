use Rattle.std.proofs.Common.{◌≡◌, ◌++◌, map}
use Rattle.std.specs.Vec.Iter.{into_iter_items}
use Rattle.qolb_work.proofs.bank.all_asleep.Given as goal

abbrev pub invariant-loop-line : goal.invariant-loop-line
invariant-loop-line g l = map (λ asleep. (asleep.0.line, asleep.1)) l.all.items ++ into_iter_items l.line-iterator ≡ l.fn.opened.items
