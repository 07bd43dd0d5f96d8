-- Defines which events are productive, and the rank of a line, which bounds how many productive events can still follow
-- without a new request. The definitions in this file were made for this project. (A ranking function is a number that
-- each step lowers. Since Floyd, 1967, it has been the usual way to prove that a program terminates.)
use Rattle.std.specs.Prelude.{◌≡◌, ℕ, zero, suc, ◌+◌, ◌-◌, ◌*◌, ◌<◌, ◌≤◌, ◌==◌, ◌&&◌, not, Bool, true, false, if◌then◌else◌, List, length, drop}
use Rattle.std.specs.List.{list_any}
use Rattle.qolb_model.specs.declared.request.Request.{Request}
use Rattle.qolb_model.specs.declared.config.LineConfig.{LineConfig}
use Rattle.qolb_model.specs.Queue.{Queue}
use Rattle.link_core.specs.declared.entry.Entry.{Entry}
use Rattle.link_core.specs.declared.point.Point.{Point}
use Rattle.link_core.specs.declared.point.Point.TheVariants.{Idle, Ready, Linking, Queued, Holding, Leaving, Marking, Granting, Freeing, Left, Rolled, Shut}
use Rattle.link_core.specs.declared.place.Place.TheVariants.{Mailbox, Hand}
use Rattle.link_core.specs.declared.told.Told.{Told}
use Rattle.link_core.specs.declared.told.Told.TheVariants as told
use Rattle.link_core.specs.declared.event.Event.{Event}
use Rattle.link_core.specs.declared.event.Event.TheVariants as event
use Rattle.link_core.specs.State.{State, entry, point, IsNode}
use Rattle.link_core.specs.Steps.{Step, node_of}
use Rattle.link_core.specs.Moves.{move_of, Goes}
use Rattle.link_core.specs.Shown.{Shows}
use Rattle.link_core.specs.Promise.{Run, opened, event}

-- the load tells the node that it has the line, and not that it waits or whether its last request is clear
abbrev pub brings_line : Told → Bool
brings_line told.Went = true
brings_line told.Granted = true
brings_line _ = false

-- The productive events are a link, a release, a freeing, and a load by which the node gets the line. A prepend, a
-- withdrawal, a write, a closing and a load that finds nothing are not productive.
abbrev pub is_productive : Event → Told → Bool
is_productive (event.Link n) t = true
is_productive (event.Load n) t = brings_line t
is_productive (event.Home n) t = true
is_productive (event.Done n) t = true
is_productive (event.Grant n) t = true
is_productive (event.Freed n) t = true
is_productive _ t = false

-- The number of productive events that a request still takes if another request is behind it. A request that must still
-- be linked takes its link, home, done and grant. It also takes a load, unless the entry that it links to is done,
-- because the link then brings the line.
abbrev pub steps_left_linking : Entry → ℕ
steps_left_linking w = if w.done then 4 else 5

-- A withdrawn request takes home, done and grant too, once a release reaches it, and its freeing. A passed request
-- takes only its freeing.
abbrev pub steps_left_rolled : Entry → ℕ
steps_left_rolled w = if w.freed then 0 else (if w.granted then 1 else 4)

-- The number of events by the node's point and entry. A waiting request takes load, home, done and grant, and each of
-- these events lowers the number by one.
abbrev pub steps_left_at : State → Entry → Point → ℕ
steps_left_at c w (Linking q) = steps_left_linking (entry c q)
steps_left_at c w Queued = 4
steps_left_at c w Holding = 3
steps_left_at c w (Leaving e) = 3
steps_left_at c w (Marking e) = 2
steps_left_at c w (Granting m) = 1
steps_left_at c w Rolled = steps_left_rolled w
steps_left_at c w Idle = 0
steps_left_at c w Ready = 0
steps_left_at c w Freeing = 0
steps_left_at c w Left = 0
steps_left_at c w Shut = 0

abbrev pub steps_left : State → ℕ → ℕ
steps_left c n = steps_left_at c (entry c n) (point c n)

-- the sum over the nodes 1 to n
abbrev pub sum_over : ℕ → (ℕ → ℕ) → ℕ
sum_over zero f = 0
sum_over (suc n) f = sum_over n f + f (suc n)

abbrev pub all_steps_left : State → ℕ
all_steps_left c = sum_over c.nodes (steps_left c)

-- The rank of a state: a bound on the number of productive events that can follow each other from there. If there is no
-- younger request, home takes the line, so the newest request takes neither done nor grant.
abbrev pub rank : State → ℕ
rank c = if c.home == 0 then all_steps_left c else (all_steps_left c - 2)

-- the node's request is behind this place
abbrev pub asks_behind : List Request → ℕ → ℕ → Bool
asks_behind order p n = list_any (λ r. r.node == n) (drop (suc p) order)

-- The rank for the request at a place, which counts only the nodes that do not ask behind it.
abbrev pub rank_at : State → List Request → ℕ → ℕ
rank_at c order p = sum_over c.nodes (λ n. if asks_behind order p n then 0 else steps_left c n)

-- the nodes that wait, hold or release the line, or are withdrawn and not freed
abbrev pub is_pending_at : Entry → Point → Bool
is_pending_at w (Linking q) = true
is_pending_at w Queued = true
is_pending_at w Holding = true
is_pending_at w (Leaving e) = true
is_pending_at w (Marking e) = true
is_pending_at w (Granting m) = true
is_pending_at w Freeing = true
is_pending_at w Rolled = if w.freed then false else true
is_pending_at w Idle = false
is_pending_at w Ready = false
is_pending_at w Left = false
is_pending_at w Shut = false

-- the number of pending nodes
abbrev pub pending : State → ℕ
pending c = sum_over c.nodes (λ n. if is_pending_at (entry c n) (point c n) then 1 else 0)

-- 1 if the event makes a request, and otherwise 0
abbrev pub asked_by : Event → ℕ
asked_by (event.Prepend n) = 1
asked_by _ = 0

-- The effect of an event on the ranks. A productive event lowers the rank, and only a prepend raises it, by at most 5.
-- While the request at a place is open, no event raises the rank for it, and each productive event of a node that does
-- not ask behind it lowers that rank.
pub record GoesDown (c d : State) (q r : Queue) (e : Event) (t : Told) : Type 0 where
  pub most : rank d ≤ rank c + 5 * asked_by e
  pub falls : is_productive e t ≡ true → rank d < rank c
  pub most_at : (p : ℕ) → p < length q.order → length r.ends ≤ p → rank_at d r.order p ≤ rank_at c q.order p
  pub falls_at : (p : ℕ) → p < length q.order → length r.ends ≤ p → is_productive e t ≡ true → asks_behind q.order p (node_of e) ≡ false → rank_at d r.order p < rank_at c q.order p

-- The next node to act. It is the node that has the line in its hand. If there is none, it is the node in whose mailbox
-- the line is, granted. Otherwise it is the node that must link to the entry in whose mailbox the line is.
pub data ActsNext (c : State) : Event → Type 0 where
  holds : (n : ℕ) → c.place ≡ Hand n → point c n ≡ Holding → ActsNext c (event.Home n)
  leaves : (n e : ℕ) → c.place ≡ Hand n → point c n ≡ Leaving e → ActsNext c (event.Home n)
  marks : (n e : ℕ) → c.place ≡ Hand n → point c n ≡ Marking e → ActsNext c (event.Done n)
  grants : (n m : ℕ) → c.place ≡ Hand n → point c n ≡ Granting m → ActsNext c (event.Grant n)
  loads : (n : ℕ) → c.place ≡ Mailbox n → point c n ≡ Queued → (entry c n).granted ≡ true → ActsNext c (event.Load n)
  links : (n e : ℕ) → c.place ≡ Mailbox e → point c n ≡ Linking e → (entry c e).done ≡ true → ActsNext c (event.Link n)

-- Some productive event is enabled, of a node that asks behind no open request.
pub record HasWay (c : State) (q : Queue) : Type 0 where
  pub event : Event
  pub node : IsNode c (node_of event)
  pub who : ActsNext c event
  pub before : (p : ℕ) → length q.ends ≤ p → asks_behind q.order p (node_of event) ≡ false
  pub told : Told
  pub next : State
  pub step : Step c event told next
  pub productive : is_productive event told ≡ true

-- Bounds of the rank. With k pending nodes it is at most 5k - 3, and with none it is 0. The rank for an open request is
-- at least 1, and at most 5 for each node, less 1.
pub record IsNear (c : State) (q : Queue) : Type 0 where
  pub most : 0 < pending c → rank c + 3 ≤ 5 * pending c
  pub none : pending c ≡ 0 → rank c ≡ 0
  pub some : (p : ℕ) → length q.ends ≤ p → p < length q.order → 0 < rank_at c q.order p
  pub at : (p : ℕ) → length q.ends ≤ p → p < length q.order → rank_at c q.order p < 5 * c.nodes

-- events that lead from one state and queue to another
pub data Path (config : LineConfig) (c : State) (q : Queue) : State → Queue → Type 0 where
  here : Path config c q c q
  then' : {d : State} {r : Queue} → Path config c q d r → (e : Event) (t : Told) (f : State) (u : Queue) (step : Step d e t f) → Goes config r (move_of step r.order) u → Shows config f u → Path config c q f u

-- the number of productive events of a path; the number of those by nodes that do not ask behind a place; and the
-- number of requests made
abbrev pub one_if : Bool → ℕ
one_if b = if b then 1 else 0

abbrev pub productive_on : {config : LineConfig} {c : State} {q : Queue} {d : State} {r : Queue} → Path config c q d r → ℕ
productive_on here = 0
productive_on (then' path e t f u step goes shows) = productive_on path + one_if (is_productive e t)

abbrev pub productive_for : {config : LineConfig} {c : State} {q : Queue} {d : State} {r : Queue} → ℕ → Path config c q d r → ℕ
productive_for p here = 0
productive_for p (then' {r = r} path e t f u step goes shows) = productive_for p path + one_if (is_productive e t && not (asks_behind r.order p (node_of e)))

abbrev pub asked_on : {config : LineConfig} {c : State} {q : Queue} {d : State} {r : Queue} → Path config c q d r → ℕ
asked_on here = 0
asked_on (then' path e t f u step goes shows) = asked_on path + asked_by e

-- A path has at most as many productive events as the rank, and 5 for each request made in it. While the request at a
-- place is open, the productive events of nodes that do not ask behind it are at most its rank, whatever the other
-- nodes do.
pub record IsShort {config : LineConfig} {c : State} {q : Queue} {d : State} {r : Queue} (path : Path config c q d r) : Type 0 where
  pub all : productive_on path + rank d ≤ rank c + 5 * asked_on path
  pub at : (p : ℕ) → p < length q.order → length r.ends ≤ p → productive_for p path + rank_at d r.order p ≤ rank_at c q.order p

-- The bound of a run from the opening is 5 for each request made.
abbrev pub productive_in : {config : LineConfig} {es : List Event} {c : State} {q : Queue} → Run config es c q → ℕ
productive_in opened = 0
productive_in (event r e t d g step goes shows) = productive_in r + one_if (is_productive e t)

abbrev pub asked_in : {config : LineConfig} {es : List Event} {c : State} {q : Queue} → Run config es c q → ℕ
asked_in opened = 0
asked_in (event r e t d g step goes shows) = asked_in r + asked_by e
