use Rattle.std.proofs.Common.{◌≡◌, ℕ, ◌<◌, ◌≤◌, get_or}
use Rattle.qolb_model.specs.declared.waiter.Waiter.{Waiter}
use Rattle.qolb_model.specs.Steps.{withdrawn_at}
use Rattle.qolb_model.proofs.plain.mark.Given as goal

abbrev pub invariant-loop-waiter : goal.invariant-loop-waiter
invariant-loop-waiter l = record {
  passed : (k : ℕ) (d : Waiter) → k < l.waiter-index → get_or l.waiting k d ≡ withdrawn_at l.node (get_or l.initial.waiting k d);
  rest : (k : ℕ) (d : Waiter) → l.waiter-index ≤ k → get_or l.waiting k d ≡ get_or l.initial.waiting k d;
}
