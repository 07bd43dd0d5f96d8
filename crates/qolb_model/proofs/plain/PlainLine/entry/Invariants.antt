use Rattle.std.proofs.Common.{◌≡◌, drop, find}
use Rattle.qolb_model.specs.Plain.{is_at}
use Rattle.qolb_model.proofs.plain.PlainLine.entry.Given as goal

abbrev pub invariant-loop-waiter : goal.invariant-loop-waiter
invariant-loop-waiter l = find (is_at l.fn.node) (drop l.waiter-index l.waiter-items) ≡ find (is_at l.fn.node) l.waiter-items
