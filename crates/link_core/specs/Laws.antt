-- Theorems about the core. The proof of a lock may use these theorems if the words of the lock are those of a core. The
-- theorems in this file were stated for this project; none is taken from the literature.
use Rattle.std.specs.Prelude.{◌≡◌, ◌≢◌, ◌↔◌, ℕ, ◌+◌, ◌*◌, ◌<◌, ◌≤◌, true, false, Option, List, [], ◌∷◌, length}
use Rattle.qolb_model.specs.declared.config.LineConfig.{LineConfig}
use Rattle.qolb_model.specs.declared.config.TheConstants.{MAX_NODES}
use Rattle.qolb_model.specs.Ends.{is_closed}
use Rattle.qolb_model.specs.Histories.{IsLegal}
use Rattle.qolb_model.specs.Requests.{count_of, last_of}
use Rattle.qolb_model.specs.declared.end.End.{End}
use Rattle.qolb_model.specs.declared.request.Request.{Request}
use Rattle.qolb_model.specs.Queue.{Queue, empty_queue, Move, Runs}
use Rattle.link_core.specs.declared.point.Point.TheVariants.{Linking, Queued, Holding, Marking, Granting, Rolled}
use Rattle.link_core.specs.declared.place.Place.TheVariants.{Home, Mailbox, Hand}
use Rattle.link_core.specs.declared.seat.ReleaseCause.{ReleaseCause}
use Rattle.link_core.specs.declared.seat.ReleaseCause.TheVariants.{Own}
use Rattle.link_core.specs.declared.told.Told.{Told}
use Rattle.link_core.specs.declared.event.Event.{Event}
use Rattle.link_core.specs.Places.{request, requester_at, IsLast}
use Rattle.link_core.specs.State.{State, IsWide, entry, seat, point, IsNode, current, first}
use Rattle.link_core.specs.Steps.{Step, Releases, Names, node_of, allows}
use Rattle.link_core.specs.Shown.{has_line, is_active, EndedBy, IsWhole, IsCarried, IsBehind, Shows}
use Rattle.link_core.specs.Moves.{move_of, may_clear, made, Goes}
use Rattle.link_core.specs.Promise.{Keeps, Run}
use Rattle.link_core.specs.Progress.{GoesDown, ActsNext, HasWay, IsNear, Path, IsShort, rank, productive_in, asked_in}

-- A new line shows the empty queue.
abbrev pub OpenedShows : Type 0
OpenedShows = (config : LineConfig) → config.nodes ≤ MAX_NODES → length config.opening.bytes ≡ 64 → IsWide (first config) × Shows config (first config) empty_queue

-- Each event leads from a state that shows a queue to a state that shows a queue after the event's move, and changes
-- nothing of the other nodes.
abbrev pub EachEventKeeps : Type 0
EachEventKeeps = (config : LineConfig) (c d : State) (q : Queue) (e : Event) (t : Told) → IsWide c → Shows config c q → (step : Step c e t d) → Keeps config c e t d step q × IsWide d

-- The queue after an event is the queue after the step's move, except for the clear list. The clear list is the same,
-- too, if the step clears nothing.
abbrev pub MovesAreMade : Type 0
MovesAreMade = (config : LineConfig) (c d : State) (q : Queue) (e : Event) (t : Told) (step : Step c e t d) (on : Keeps config c e t d step q) → (on.after ≡ record (made q (move_of step q.order)) { clear = on.after.clear }) × (may_clear e (move_of step q.order) ≡ false → on.after ≡ made q (move_of step q.order))

-- An event has an effect only if its node's point allows it, and then exactly one.
abbrev pub EventsAreEnabled : Type 0
EventsAreEnabled = (c d : State) (e : Event) (t : Told) → Step c e t d → IsNode c (node_of e) × (allows e (point c (node_of e)) ≡ true)

abbrev pub EventsHaveOneEffect : Type 0
EventsHaveOneEffect = (c d f : State) (e : Event) (t u : Told) → Step c e t d → Step c e u f → (t ≡ u) × (d ≡ f)

-- Each event that adds a field to an entry finds that field 0, so that the sum is the word with the field set.
pub record Unset (c : State) : Type 0 where
  pub link : (n p : ℕ) → IsNode c n → point c n ≡ Linking p → (entry c p).link ≡ 0
  pub done : (n e : ℕ) → IsNode c n → point c n ≡ Marking e → (entry c e).done ≡ false
  pub granted : (n m : ℕ) → IsNode c n → point c n ≡ Granting m → (entry c m).granted ≡ false
  pub rolled : (n : ℕ) → IsNode c n → point c n ≡ Queued → (entry c n).rolled ≡ false
  pub freed : (n x : ℕ) (rest : List ℕ) → IsNode c n → (seat c n).passed ≡ x ∷ rest → (entry c x).freed ≡ false

abbrev pub AddsFindUnset : Type 0
AddsFindUnset = (config : LineConfig) (c : State) (q : Queue) → Shows config c q → Unset c

-- What the nodes find. A point names only nodes. A node in a release is the only one that has the line in its hand, in
-- the state in which it must be handed over, and the release is at the entry that the node's list of passed nodes says.
-- The next node waits or is withdrawn, and its flag tells which. A node that still has to link is right behind the node
-- that it links to. Home names the newest open request. If a flag says that the line is granted, it is in that mailbox.
-- If no node waits or has the line, all requests have ended.
pub record Found (config : LineConfig) (c : State) (q : Queue) : Type 0 where
  pub names : (n : ℕ) → IsNode c n → Names c (point c n)
  pub hand : (n : ℕ) → IsNode c n → has_line (point c n) ≡ true → c.place ≡ Hand n
  pub one : (n m : ℕ) → IsNode c n → IsNode c m → has_line (point c n) ≡ true → has_line (point c m) ≡ true → n ≡ m
  pub turn : (n : ℕ) → IsNode c n → has_line (point c n) ≡ true → IsLast q.order (current c n) (length q.ends)
  pub carried : (n : ℕ) → IsNode c n → has_line (point c n) ≡ true → IsCarried config c q.order q.ends n (seat c n).reason (seat c n).passed
  pub whole : ((n : ℕ) → c.place ≢ Hand n) → IsWhole config c q.ends
  pub holds : (n : ℕ) → IsNode c n → point c n ≡ Holding → ((seat c n).reason ≡ Own) × ((seat c n).passed ≡ [])
  pub passed : (n x : ℕ) (rest : List ℕ) → IsNode c n → (seat c n).passed ≡ x ∷ rest → IsNode c x × (point c x ≡ Rolled)
  pub releases : (n e : ℕ) → IsNode c n → Releases c n e → (has_line (point c n) ≡ true) × (current c n ≡ e)
  pub marks : (n e : ℕ) → IsNode c n → point c n ≡ Marking e → (current c n ≡ e) × (length q.ends + 1 < length q.order)
  pub late : (n e : ℕ) → IsNode c n → point c n ≡ Marking e → (entry c e).link ≡ 0 → point c (requester_at q.order (length q.ends + 1)) ≡ Linking e
  pub home : (p : ℕ) → length q.ends ≤ p → p < length q.order → (c.home ≡ requester_at q.order p) ↔ (p + 1 ≡ length q.order)
  pub grant : (n m : ℕ) → IsNode c n → point c n ≡ Granting m → (length q.ends + 1 < length q.order) × (requester_at q.order (length q.ends + 1) ≡ m)
  pub grant_waits : (n m : ℕ) → IsNode c n → point c n ≡ Granting m → (entry c m).rolled ≡ false → point c m ≡ Queued
  pub grant_rolled : (n m : ℕ) → IsNode c n → point c n ≡ Granting m → (entry c m).rolled ≡ true → point c m ≡ Rolled
  pub link : (n p : ℕ) → IsNode c n → point c n ≡ Linking p → IsBehind c q.order q.ends p n
  pub link_done : (n p : ℕ) → IsNode c n → point c n ≡ Linking p → (entry c p).done ≡ true → (c.place ≡ Mailbox p) × IsLast q.order n (length q.ends)
  pub granted : (n : ℕ) → IsNode c n → point c n ≡ Queued → (entry c n).granted ≡ true → (c.place ≡ Mailbox n) × IsLast q.order n (length q.ends)
  pub waits : (n : ℕ) → IsNode c n → point c n ≡ Queued → (entry c n).granted ≡ false → (p : ℕ) × IsLast q.order n p × (length q.ends < p)
  pub idle : c.home ≡ 0 → c.place ≡ Home
  pub over : ((n : ℕ) → IsNode c n → is_active (point c n) ≡ false) → (length q.ends ≡ length q.order) × (c.place ≡ Home)

abbrev pub NodesFind : Type 0
NodesFind = (config : LineConfig) (c : State) (q : Queue) → Shows config c q → Found config c q

-- No event changes the number of nodes, or the lengths of the lists.
abbrev pub SizesStay : Type 0
SizesStay = (c d : State) (e : Event) (t : Told) → Step c e t d → (d.nodes ≡ c.nodes) × (length d.entries ≡ length c.entries) × (length d.seats ≡ length c.seats)

-- The request at a node's last place has the node's highest number, and a node that has made requests has a last place.
pub record LastPlaces (order : List Request) (n : ℕ) : Type 0 where
  pub number : (p : ℕ) → IsLast order n p → request order p ≡ last_of n order
  pub place : 1 ≤ count_of n order → (p : ℕ) × IsLast order n p

abbrev pub LastsHavePlaces : Type 0
LastsHavePlaces = (lease : Option ℕ) (order : List Request) (ends : List End) (n : ℕ) → IsLegal lease order ends → LastPlaces order n

-- A release passes fewer nodes than the line has. Once it has passed all others, it finds itself named at home.
pub record Short (c : State) : Type 0 where
  pub passed : (n : ℕ) → IsNode c n → length (seat c n).passed < c.nodes
  pub home : (n : ℕ) → IsNode c n → has_line (point c n) ≡ true → length (seat c n).passed + 1 ≡ c.nodes → c.home ≡ current c n

abbrev pub WalksAreShort : Type 0
WalksAreShort = (config : LineConfig) (c : State) (q : Queue) → Shows config c q → Short c

-- If a node's last request has ended by closing the line, or was told that it is closed, the line is closed.
abbrev pub EndsClose : Type 0
EndsClose = (config : LineConfig) (c : State) (q : Queue) (n : ℕ) (r : ReleaseCause) → Shows config c q → r ≢ Own → EndedBy q.order q.ends n r → is_closed q.ends ≡ true

-- A run of events is a run of the queue.
abbrev pub RunsMove : Type 0
RunsMove = (config : LineConfig) (es : List Event) (c : State) (q : Queue) → Run config es c q → (moves : List Move) × Runs config empty_queue moves q

-- The rank is a ranking function: a productive event lowers it, and only a prepend raises it. The same holds for each
-- open request.
abbrev pub EventsGoDown : Type 0
EventsGoDown = (config : LineConfig) (c d : State) (q r : Queue) (e : Event) (t : Told) → IsWide c → Shows config c q → (step : Step c e t d) → Goes config q (move_of step q.order) r → GoesDown c d q r e t

-- While a request is open, some node that asks behind no open request has a productive event that is enabled. The place
-- of the line says which node.
abbrev pub OpenHaveWays : Type 0
OpenHaveWays = (config : LineConfig) (c : State) (q : Queue) → Shows config c q → length q.ends < length q.order → HasWay c q

-- No other node can disable that event.
abbrev pub WaysStay : Type 0
WaysStay = (config : LineConfig) (c d : State) (q : Queue) (e f : Event) (t : Told) → IsWide c → Shows config c q → IsNode c (node_of f) → Step c e t d → node_of e ≢ node_of f → ActsNext c f → ActsNext d f

-- Bounds of the rank.
abbrev pub FewAreLeft : Type 0
FewAreLeft = (config : LineConfig) (c : State) (q : Queue) → Shows config c q → IsNear c q

-- A path has at most as many productive events as its rank and its requests allow,
abbrev pub PathsAreShort : Type 0
PathsAreShort = (config : LineConfig) (c d : State) (q r : Queue) → IsWide c → Shows config c q → (path : Path config c q d r) → IsShort path

-- and a run from the opening has at most 5 for each request.
abbrev pub RunsAreShort : Type 0
RunsAreShort = (config : LineConfig) (es : List Event) (c : State) (q : Queue) → config.nodes ≤ MAX_NODES → length config.opening.bytes ≡ 64 → (run : Run config es c q) → productive_in run + rank c ≤ 5 * asked_in run

-- The open requests are of different nodes. Therefore at most N - 1 others end before an open request, because its
-- place stays and a later request is behind it.
pub record AreFew (c : State) (q : Queue) : Type 0 where
  pub apart : (p i : ℕ) → length q.ends ≤ p → p < length q.order → length q.ends ≤ i → i < length q.order → requester_at q.order p ≡ requester_at q.order i → p ≡ i
  pub near : (p : ℕ) → length q.ends ≤ p → p < length q.order → p < length q.ends + c.nodes

abbrev pub FewAreOpen : Type 0
FewAreOpen = (config : LineConfig) (c : State) (q : Queue) → Shows config c q → AreFew c q
