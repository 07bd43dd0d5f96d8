-- How each event changes the abstract queue. An event makes at most one move of the queue. After the move, ended
-- requests may become clear, so that their nodes may make another request. (The queue at a line is from Goodman, Vernon
-- and Woest, 1989. The order in which requests end is this project's own; the links of the list determine this order.)
use Rattle.std.specs.Prelude.{ℕ, Bool, true, false, List, [], ◌∷◌, Option, Some, None}
use Rattle.qolb_model.specs.declared.request.Request.{Request}
use Rattle.qolb_model.specs.declared.end.End.{End}
use Rattle.qolb_model.specs.declared.end.End.TheVariants as end
use Rattle.qolb_model.specs.declared.config.LineConfig.{LineConfig}
use Rattle.qolb_model.specs.Requests.{last_of}
use Rattle.qolb_model.specs.Queue.{Queue, Move, ask, mark, finish, CanMove, moved, HasCleared}
use Rattle.link_core.specs.declared.seat.ReleaseCause.{ReleaseCause}
use Rattle.link_core.specs.declared.seat.ReleaseCause.TheVariants.{Own, Closing, Refused}
use Rattle.link_core.specs.declared.event.Event.{Event}
use Rattle.link_core.specs.declared.event.Event.TheVariants as event
use Rattle.link_core.specs.declared.told.Told.{Told}
use Rattle.link_core.specs.State.{State, seat}
use Rattle.link_core.specs.Steps.{Step, closed_by}
use Rattle.link_core.specs.Steps as row

-- the end of the request at its turn, by the cause of the release and the nodes that it has passed
abbrev pub end_by : State → ReleaseCause → List ℕ → End
end_by c Own [] = end.Served (record { mask = c.mask; bytes = c.bytes }) false
end_by c Closing [] = end.Served (record { mask = c.mask; bytes = c.bytes }) true
end_by c Refused [] = end.Told
end_by c _ (m ∷ ms) = end.Gone

abbrev pub end_of : State → ℕ → End
end_of c n = end_by c (seat c n).reason (seat c n).passed

-- A prepend makes a request. The request at its turn ends when the line leaves its entry: the line goes home, stays
-- with an entry that has no link, or is granted to the next node. A withdrawal before the grant marks the node's last
-- request.
abbrev pub move_of : {c : State} {e : Event} {t : Told} {d : State} → Step c e t d → List Request → Option Move
move_of (row.prepend_first n a at idle) order = Some (ask n)
move_of (row.prepend n a at busy) order = Some (ask n)
move_of {c} (row.home n e a at last) order = Some (finish (end_of c n))
move_of {c} (row.home_last n a at last idle) order = Some (finish (end_of (closed_by n c) n))
move_of {c} (row.done_left n e a at unlinked own) order = Some (finish (end_of c n))
move_of {c} (row.done_rolled n e a at unlinked other) order = Some (finish (end_of c n))
move_of {c} (row.grant n m a at unrolled) order = Some (finish (end_of c n))
move_of {c} (row.grant_rolled n m a at rolled) order = Some (finish (end_of c n))
move_of (row.roll n a at ungranted) order = Some (mark (last_of n order))
move_of _ order = None

-- an end, a link or a freeing may make requests clear
abbrev pub may_clear : Event → Option Move → Bool
may_clear e (Some (finish x)) = true
may_clear (event.Link n) m = true
may_clear (event.Freed n) m = true
may_clear _ _ = false

-- one move or none: its condition, and the queue after it
abbrev pub MayMake : LineConfig → Queue → Option Move → Type 0
MayMake config q None = Unit {0}
MayMake config q (Some move) = CanMove config q move

abbrev pub made : Queue → Option Move → Queue
made q None = q
made q (Some move) = moved q move

pub record Goes (config : LineConfig) (q : Queue) (move : Option Move) (next : Queue) : Type 0 where
  pub may : MayMake config q move
  pub cleared : HasCleared (made q move) next
