use Rattle.qolb_model.proofs.WithinCalls.{one_call}
use Rattle.line_board.proofs.turn.release.Goals as goal

pub returns-clause-steps : goal.returns-clause-steps
returns-clause-steps g c = let counts = c.deqolb.ensures.counts in one_call _ _ _ counts.total_steps counts.bound counts.poll_count
