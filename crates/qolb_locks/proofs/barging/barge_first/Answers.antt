use Rattle.std.proofs.Common.{ℕ, ap, subst}
use Rattle.qolb_locks.specs.Calls.{Barges}
use Rattle.qolb_locks.specs.declared.ticket.Ticket.{Ticket}
use Rattle.qolb_locks.proofs.Firsts.{first_then}
use Rattle.qolb_locks.proofs.barging.barge_first.Goals as goal

pub returns-clause-does : goal.returns-clause-does
returns-clause-does c = subst (λ (guess : ℕ). Barges c.args.lock.now guess c.barge_again.new.ticket c.barge_again.result) (ap (λ (t : Ticket). t.lock_word) c.take_new_seat.ensures.kept) c.barge_again.ensures.does

pub returns-clause-steps : goal.returns-clause-steps
returns-clause-steps c = first_then 1 1 c.take_new_seat.new.ticket c.barge_again.new.ticket c.take_new_seat.ensures.steps c.barge_again.ensures.steps
