use Rattle.line_cells.proofs.Walking.{IsFreeing}
use Rattle.ring_line.proofs.release.free_passed.Given as goal

abbrev pub invariant-loop-node : goal.invariant-loop-node
invariant-loop-node g l = IsFreeing g.K.Keep.allows l.initial.seat l.node-index l.seat
