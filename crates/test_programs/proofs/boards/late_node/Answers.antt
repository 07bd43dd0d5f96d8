use Rattle.std.proofs.Common.{refl}
use Rattle.line_board.specs.Law.{same_board}
use Rattle.line_board.proofs.Turns.{found_board}
use Rattle.test_programs.proofs.boards.late_node.Goals as goal

pub deqolb-requires-clause-allowed : goal.deqolb-requires-clause-allowed
deqolb-requires-clause-allowed g c =
    let sound = g.met.L.LineSync.sound c.args.line.now c.enqolb.new.port c.enqolb.ensures.belongs in
    let granted = c.in-Granted.ensures.enqueues.granted refl in
    rw granted.bytes (same_board _ (found_board _ _ (g.L.LineSync.view c.enqolb.new.port) sound))
