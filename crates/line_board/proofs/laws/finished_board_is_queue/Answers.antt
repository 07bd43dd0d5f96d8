use Rattle.line_board.proofs.Balance.{board_queues}
use Rattle.line_board.proofs.laws.finished_board_is_queue.Goals as goal

pub returns : goal.returns
returns c = λ label config views bytes finished opened. rw (finished.result, opened) (board_queues finished.history.ends (rw opened at finished.kept))
