use Rattle.line_board.proofs.Encoding.{IsWritten}
use Rattle.line_board.proofs.board.encode.Given as goal

abbrev pub invariant-loop-k : goal.invariant-loop-k
invariant-loop-k l = IsWritten l.line.bytes l.tasks.items l.k
