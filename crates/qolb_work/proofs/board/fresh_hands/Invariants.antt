use Rattle.std.proofs.Common.{◌≡◌, ◌≤◌, drop, length}
use Rattle.std.specs.Vec.Iter.{into_iter_items}
use Rattle.qolb_work.specs.BoardWork.{HasWorked}
use Rattle.qolb_work.specs.Workers.{AreFresh}
use Rattle.qolb_work.proofs.board.fresh_hands.Given as goal

abbrev pub invariant-loop-port : goal.invariant-loop-port
invariant-loop-port g l = record {
  rest : into_iter_items l.port-iterator ≡ drop (length l.hands.items) l.fn.ports.items;
  fresh : AreFresh (HasWorked g.L.LineSync.belongs g.L.LineSync.view) l.line l.hands.items;
  many : length l.hands.items ≤ length l.fn.ports.items;
}
