use Rattle.line_blocking.proofs.Rounds.{Round}
use Rattle.line_blocking.proofs.meetings.meet_each.Given as goal

abbrev pub invariant-loop-other : goal.invariant-loop-other
invariant-loop-other g l = Round g.K.Keep.allows (g.L.LineSync.belongs l.line) g.L.LineSync.view g.L.LineSync.turn l.fn.port l.fn.others l.other-index l.port l.others
