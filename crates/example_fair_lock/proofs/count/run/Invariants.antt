use Rattle.std.specs.Prelude.{◌≡◌, ◌+◌, ◌*◌, vec_len}
use Rattle.example_fair_lock.proofs.count.run.Given as goal

abbrev pub invariant-loop-i : goal.invariant-loop-i
invariant-loop-i g l = (l.all.parts + l._i ≡ l.threads + 1) × (l.all.amount + l._i * l.each ≡ l.threads * l.each) × (vec_len l.jobs ≡ l._i)

abbrev pub invariant-loop-tickets : goal.invariant-loop-tickets
invariant-loop-tickets g l = (l.all.parts + vec_len l.done ≡ l.threads + 1) × (l.all.amount ≡ 0)

abbrev pub decreases-loop-tickets : goal.decreases-loop-tickets
decreases-loop-tickets g l = goal.left-loop-tickets g l
