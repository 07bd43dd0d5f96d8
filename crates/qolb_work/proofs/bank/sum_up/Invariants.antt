use Rattle.std.proofs.Common.{◌≡◌, take}
use Rattle.std.specs.List.{sum_by}
use Rattle.qolb_work.proofs.bank.sum_up.Given as goal

abbrev pub invariant-loop-desk : goal.invariant-loop-desk
invariant-loop-desk g l = (l.paid_in ≡ sum_by (λ desk. desk.paid_in) (take l.desk-index l.desks)) × (l.paid_out ≡ sum_by (λ desk. desk.paid_out) (take l.desk-index l.desks))
