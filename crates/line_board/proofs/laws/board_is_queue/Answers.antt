use Rattle.line_board.proofs.Balance.{board_queues}
use Rattle.line_board.proofs.laws.board_is_queue.Goals as goal

pub returns : goal.returns
returns c = λ v kept opened. rw opened (board_queues v.ends (rw opened at kept))
