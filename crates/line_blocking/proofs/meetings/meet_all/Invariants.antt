use Rattle.std.proofs.Common.{◌≡◌, length, map, All}
use Rattle.line_blocking.specs.Meetings.{HaveMet}
use Rattle.line_blocking.specs.ViewAndTurn.{view_and_turn}
use Rattle.line_blocking.proofs.meetings.meet_all.Given as goal

abbrev pub invariant-loop-place : goal.invariant-loop-place
invariant-loop-place g l = All (g.L.LineSync.belongs l.line) l.ports × (length l.ports ≡ length l.initial.ports) × HaveMet g.K.Keep.allows (map (view_and_turn g.L.LineSync.view g.L.LineSync.turn) l.initial.ports) l.place (map (view_and_turn g.L.LineSync.view g.L.LineSync.turn) l.ports)
