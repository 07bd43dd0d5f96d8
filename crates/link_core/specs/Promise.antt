-- What each step guarantees: if the state before the step represents a queue, the state after it represents this queue
-- after at most one move.
use Rattle.std.specs.Prelude.{◌≡◌, ◌≢◌, ℕ, ◌+◌, ◌<◌, ◌≤◌, false, List, [], ◌∷◌, ◌++◌, length, take, slice_get, Some}
use Rattle.qolb_model.specs.declared.config.LineConfig.{LineConfig}
use Rattle.qolb_model.specs.declared.config.TheConstants.{MAX_NODES}
use Rattle.link_core.specs.declared.state.TheConstants.{PLACES}
use Rattle.qolb_model.specs.declared.request.Request.{Request}
use Rattle.qolb_model.specs.declared.end.End.{End}
use Rattle.qolb_model.specs.Requests.{Has, Lacks}
use Rattle.qolb_model.specs.EndKinds.{is_gone}
use Rattle.qolb_model.specs.Ends.{is_closed}
use Rattle.qolb_model.specs.Queue.{Queue, empty_queue}
use Rattle.link_core.specs.declared.seat.ReleaseCause.TheVariants.{Own, Closing, Refused}
use Rattle.link_core.specs.declared.place.Place.TheVariants.{Hand}
use Rattle.link_core.specs.declared.told.Told.{Told}
use Rattle.link_core.specs.declared.told.Told.TheVariants as told
use Rattle.link_core.specs.declared.told.NotEnabled.{NotEnabled}
use Rattle.link_core.specs.declared.event.Event.{Event}
use Rattle.link_core.specs.Places.{request, IsLast}
use Rattle.link_core.specs.State.{State, first}
use Rattle.link_core.specs.Steps.{Step, node_of, IsRefused}
use Rattle.link_core.specs.Moves.{move_of, may_clear, Goes}
use Rattle.link_core.specs.Others.{Spared}
use Rattle.link_core.specs.Shown.{EndedBy, Shows}

-- n's last request is at its turn on an open line, or waits behind the request at its turn
pub record AtTurn (q : Queue) (n : ℕ) : Type 0 where
  pub last : IsLast q.order n (length q.ends)
  pub open' : is_closed q.ends ≡ false

pub record Waits (q : Queue) (n : ℕ) : Type 0 where
  pub at : ℕ
  pub last : IsLast q.order n at
  pub behind : length q.ends < at

-- What n's last request is told:
-- - granted, only at its turn;
-- - queued, waiting and withdrawn, only before its turn;
-- - released, shut and closed, only if it has ended in that way;
-- - free and busy, as the clear list says.
abbrev pub Says : Queue → ℕ → Told → Type 0
Says q n told.Went = Unit {0}
Says q n told.Granted = AtTurn q n
Says q n told.Queued = Waits q n
Says q n told.Waiting = Waits q n
Says q n told.Withdrawn = Waits q n
Says q n told.Released = EndedBy q.order q.ends n Own
Says q n told.Shut = EndedBy q.order q.ends n Closing
Says q n told.Closed = EndedBy q.order q.ends n Refused
Says q n told.Free = (p : ℕ) → IsLast q.order n p → Has q.clear (request q.order p)
Says q n told.Busy = (p : ℕ) → IsLast q.order n p → Lacks q.clear (request q.order p)

-- the request that ended last is clear, unless its end is Gone
abbrev pub IsClearBefore : Queue → Type 0
IsClearBefore q = (p : ℕ) (r : Request) (e : End) → p + 1 ≡ length q.ends → slice_get q.order p ≡ Some r → slice_get q.ends p ≡ Some e → is_gone e ≡ false → Has q.clear r

-- The step leads from a state that shows q to a state that shows a queue after the step's move. If a node takes the
-- line into its hand, the request before that node's is clear.
pub record Keeps (config : LineConfig) (c : State) (e : Event) (t : Told) (d : State) (step : Step c e t d) (q : Queue) : Type 0 where
  pub after : Queue
  pub goes : Goes config q (move_of step q.order) after
  pub shows : Shows config d after
  pub says : Says after (node_of e) t
  pub comes : (n : ℕ) → d.place ≡ Hand n → ((m : ℕ) → c.place ≢ Hand m) → IsClearBefore after
  pub uncleared : may_clear e (move_of step q.order) ≡ false → after.clear ≡ q.clear
  pub spared : Spared c d q after (node_of e)

-- what holds of every state of a core: it shows some queue, and there is a place for each of its nodes
pub record IsSound (c : State) : Type 0 where
  pub nodes : c.nodes ≤ MAX_NODES
  pub entries : length c.entries ≡ PLACES
  pub seats : length c.seats ≡ PLACES
  pub config : LineConfig
  pub queue : Queue
  pub shows : Shows config c queue

-- a run: these events lead from the opening to a state and a queue, each with its move and a queue that is shown after
-- it
pub data Run (config : LineConfig) : List Event → State → Queue → Type 0 where
  opened : Run config [] (first config) empty_queue
  event : {es : List Event} {c : State} {q : Queue} → Run config es c q → (e : Event) (t : Told) (d : State) (r : Queue) (step : Step c e t d) → Goes config q (move_of step q.order) r → Shows config d r → Run config (es ++ e ∷ []) d r

-- the events before i lead to a state, and the event at i is refused there
pub record Stops (config : LineConfig) (es : List Event) (i : ℕ) (r : NotEnabled) : Type 0 where
  pub state : State
  pub queue : Queue
  pub before : Run config (take i es) state queue
  pub here : i < length es
  pub refused : (e : Event) → slice_get es i ≡ Some e → IsRefused state e r
