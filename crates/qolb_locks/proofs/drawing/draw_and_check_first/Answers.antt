use Rattle.qolb_locks.proofs.Firsts.{first_then}
use Rattle.qolb_locks.proofs.drawing.draw_and_check_first.Goals as goal

pub returns-clause-steps : goal.returns-clause-steps
returns-clause-steps c = first_then 1 3 c.take_new_seat.new.ticket c.draw_and_check_again.new.ticket c.take_new_seat.ensures.steps c.draw_and_check_again.ensures.steps
