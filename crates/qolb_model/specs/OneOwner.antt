-- Defines the answer of each call, and the moves of the queue, on a line with a single owner that makes all calls one
-- after another. These definitions determine the answers to a script of calls. The definitions in this file were made
-- for this project; none is taken from the literature.
use Rattle.std.specs.Prelude.{ℕ, ◌+◌, Bool, true, false, not, ◌&&◌, if◌then◌else◌, List, [], ◌∷◌, length, drop, map, take_while, bit_or}
use Rattle.std.specs.Option.{option_map_or}
use Rattle.line_lanes.specs.Line.{merged}
use Rattle.qolb_model.specs.declared.answer.Enq.{Enq}
use Rattle.qolb_model.specs.declared.answer.Enq.TheVariants as enq
use Rattle.qolb_model.specs.declared.answer.Poll.{Poll}
use Rattle.qolb_model.specs.declared.answer.Poll.TheVariants as poll
use Rattle.qolb_model.specs.declared.answer.Out.{Out}
use Rattle.qolb_model.specs.declared.answer.Out.TheVariants as out
use Rattle.qolb_model.specs.declared.answer.PortState.{PortState}
use Rattle.qolb_model.specs.declared.answer.PortState.TheVariants as port
use Rattle.qolb_model.specs.declared.write.Write.{Write}
use Rattle.qolb_model.specs.declared.config.LineConfig.{LineConfig}
use Rattle.qolb_model.specs.declared.end.End.{End}
use Rattle.qolb_model.specs.declared.end.End.TheVariants.{Served, Gone, Told}
use Rattle.qolb_model.specs.Requests.{has, is_same, last_of}
use Rattle.qolb_model.specs.Ends.{is_closed, bytes_after, written}
use Rattle.qolb_model.specs.Leases.{closes}
use Rattle.qolb_model.specs.Histories.{turn_of, ended_of, open_of}
use Rattle.qolb_model.specs.Queue.{Queue, empty_queue, Move, ask, mark, finish, moved}

-- the configuration of a line, its queue, whether the request at its turn was answered granted, and what its holder has
-- written in this turn
pub record OwnerState : Type 0 where
  pub config : LineConfig
  pub queue : Queue
  pub granted : Bool
  pub turn : Write

-- a turn that has written nothing yet
abbrev pub new_turn : List ℕ → List End → Write
new_turn opening ends = record { mask = record { 0 = 0 }; bytes = record { bytes = bytes_after opening ends } }

-- the state of a new line
abbrev pub opened : LineConfig → OwnerState
opened config = record { config = config; queue = empty_queue; granted = false; turn = new_turn config.opening.bytes [] }

-- the node's last request is at its turn
abbrev pub is_first : Queue → ℕ → Bool
is_first q node = option_map_or (is_same (last_of node q.order)) (turn_of q.order q.ends) false

-- the node's last request has no end; or it has no end and was withdrawn
abbrev pub is_open : Queue → ℕ → Bool
is_open q node = has (open_of q.order q.ends) (last_of node q.order)

abbrev pub is_rolled : Queue → ℕ → Bool
is_rolled q node = is_open q node && has q.marked (last_of node q.order)

-- The state of a node with an open request is Holding if the request was answered granted, Rolled if it was withdrawn,
-- and otherwise Queued. The state of any other node is Idle, or Shut once the line is closed.
abbrev pub state_of : OwnerState → ℕ → PortState
state_of s node =
    if is_open s.queue node
    then (if has s.queue.marked (last_of node s.queue.order) then port.Rolled else (if s.granted && is_first s.queue node then port.Holding else port.Queued))
    else (if is_closed s.queue.ends then port.Shut else port.Idle)

-- the queue after these moves, with all ended requests clear
abbrev pub moved_by : Queue → List Move → Queue
moved_by q [] = record q { clear = ended_of q.order q.ends }
moved_by q (move ∷ moves) = moved_by (moved q move) moves

-- the request at its turn ends, and the withdrawn requests behind it are passed, up to the next request that is not
-- withdrawn
abbrev pub ends_with : End → Queue → List Move
ends_with end q = finish end ∷ map (λ _. finish Gone) (take_while (has q.marked) (drop (length q.ends + 1) q.order))

-- the line after some moves, after a grant, and after the end of a turn
abbrev pub after_moves : List Move → OwnerState → OwnerState
after_moves moves s = record s { queue = moved_by s.queue moves }

abbrev pub after_grant : OwnerState → OwnerState
after_grant s = record s { granted = true; turn = new_turn s.config.opening.bytes s.queue.ends }

abbrev pub after_end : OwnerState → OwnerState
after_end s = record s { granted = false; turn = new_turn s.config.opening.bytes s.queue.ends }

-- what `poll` answers: a request that is not at its turn waits; a request at its turn is granted, or told that the line
-- is closed
abbrev pub poll_answer : OwnerState → ℕ → Poll
poll_answer s node = if is_first s.queue node then (if is_closed s.queue.ends then poll.Closed else poll.Granted) else poll.Waiting

abbrev pub poll_moves : Poll → OwnerState → List Move
poll_moves poll.Granted s = []
poll_moves poll.Waiting s = []
poll_moves poll.Closed s = ends_with Told s.queue

abbrev pub after_poll : Poll → OwnerState → OwnerState
after_poll poll.Granted s = after_grant s
after_poll poll.Waiting s = s
after_poll poll.Closed s = after_end (after_moves (ends_with Told s.queue) s)

-- what `enqolb` answers: busy while the node's last request is withdrawn and has no end; otherwise the node makes a
-- request, and the answer is that of `poll`, with queued in place of waiting
abbrev pub as_enq : Poll → Enq
as_enq poll.Granted = enq.Granted
as_enq poll.Waiting = enq.Queued
as_enq poll.Closed = enq.Closed

abbrev pub after_ask : OwnerState → ℕ → OwnerState
after_ask s node = after_moves (ask node ∷ []) s

abbrev pub enq_answer : OwnerState → ℕ → Enq
enq_answer s node = if is_rolled s.queue node then enq.Busy else as_enq (poll_answer (after_ask s node) node)

-- the node's last request is clear, so that its next one is not busy
abbrev pub clear_answer : OwnerState → ℕ → Bool
clear_answer s node = not (is_rolled s.queue node)

abbrev pub enq_moves : OwnerState → ℕ → List Move
enq_moves s node = if is_rolled s.queue node then [] else ask node ∷ poll_moves (poll_answer (after_ask s node) node) (after_ask s node)

abbrev pub after_enq : OwnerState → ℕ → OwnerState
after_enq s node = if is_rolled s.queue node then s else after_poll (poll_answer (after_ask s node) node) (after_ask s node)

-- what `withdraw` answers: a request that is not at its turn is marked; otherwise the answer is that of `poll`
abbrev pub as_out : Poll → Out
as_out poll.Granted = out.Granted
as_out poll.Waiting = out.Withdrawn
as_out poll.Closed = out.Closed

abbrev pub out_answer : OwnerState → ℕ → Out
out_answer s node = as_out (poll_answer s node)

abbrev pub mark_last : OwnerState → ℕ → List Move
mark_last s node = mark (last_of node s.queue.order) ∷ []

abbrev pub out_moves : OwnerState → ℕ → List Move
out_moves s node = if is_first s.queue node then poll_moves (poll_answer s node) s else mark_last s node

abbrev pub after_out : OwnerState → ℕ → OwnerState
after_out s node = if is_first s.queue node then after_poll (poll_answer s node) s else after_moves (mark_last s node) s

-- what `deqolb` does, and `shut` if the argument is true: the request at its turn ends as served with what its turn
-- wrote; the last turn of a lease closes the line, as `shut` does
abbrev pub release_moves : OwnerState → Bool → List Move
release_moves s shut = ends_with (Served s.turn (closes s.config.lease s.queue.ends shut)) s.queue

abbrev pub after_release : OwnerState → Bool → OwnerState
after_release s shut = after_end (after_moves (release_moves s shut) s)

-- what `write` does: it changes the bytes under their mask, and that mask joins the mask of the turn
abbrev pub turn_after : Write → ℕ → List ℕ → Write
turn_after turn mask bytes = record { mask = record { 0 = bit_or turn.mask.0 mask }; bytes = record { bytes = merged turn.bytes.bytes bytes mask } }

abbrev pub after_write : OwnerState → ℕ → List ℕ → OwnerState
after_write s mask bytes = record s { turn = turn_after s.turn mask bytes }

-- the bytes that the line shows: those after all ends, changed by what this turn wrote
abbrev pub shown : OwnerState → List ℕ
shown s = written (bytes_after s.config.opening.bytes s.queue.ends) s.turn
