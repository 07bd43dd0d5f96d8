use Rattle.std.proofs.Common.{refl}
use Rattle.line_board.specs.Law.{same_board}
use Rattle.line_board.proofs.Turns.{board_known, has_found}
use Rattle.line_board.proofs.turn.keep.Goals as goal

pub release-requires-clause-allowed : goal.release-requires-clause-allowed
release-requires-clause-allowed g c =
    let sound = g.met.L.LineSync.sound c.args.line.now c.args.port.now c.requires.belongs in
    let board = board_known (g.L.LineSync.view c.args.port.now) (rw sound.config_is sound.opened_good) sound.kept in
    rw c.requires.granted.bytes (same_board _ board)

pub returns-clause-found : goal.returns-clause-found
returns-clause-found g c = λ tasks stood. has_found _ _ _ _ c.requires.granted c.release.ensures.releases tasks refl stood
