-- The queue of a line as a state machine. Requests are made, may be marked as withdrawn, and end in order. (The queue
-- is from Goodman, Vernon and Woest, 1989. Withdrawing a request by a mark and closing a line are this project's own.)
use Rattle.std.specs.Prelude.{◌≡◌, ℕ, ◌<◌, ◌≤◌, true, false, List, [], ◌∷◌, ◌++◌, length, Option, Some, slice_get}
use Rattle.qolb_model.specs.declared.request.Request.{Request}
use Rattle.qolb_model.specs.declared.end.End.{End}
use Rattle.qolb_model.specs.declared.end.End.TheVariants.{Served, Gone, Told}
use Rattle.qolb_model.specs.Requests.{Has, Lacks, count_of, last_of, next_of}
use Rattle.qolb_model.specs.declared.config.LineConfig.{LineConfig}
use Rattle.qolb_model.specs.Ends.{is_closed}
use Rattle.qolb_model.specs.Leases.{is_last_turn}
use Rattle.qolb_model.specs.Histories.{turn_of, Clears}

-- the requests in their order, the ends of the first of them, the requests that were withdrawn, and the requests whose
-- nodes may make another one
pub record Queue : Type 0 where
  pub order : List Request
  pub ends : List End
  pub marked : List Request
  pub clear : List Request

abbrev pub empty_queue : Queue
empty_queue = record { order = []; ends = []; marked = []; clear = [] }

-- a node makes its next request, a request is marked as withdrawn, or the request at its turn ends
pub data Move : Type 0 where
  ask : (node : ℕ) → Move
  mark : (request : Request) → Move
  finish : (end : End) → Move

-- The ends that the request at its turn may have. If the request is marked, the end is Gone. Otherwise it is served
-- while the line is open, and the last turn of the lease closes the line. On a closed line it is told so.
abbrev pub EndsAs : Option ℕ → Queue → Request → End → Type 0
EndsAs lease q r (Served write shut) = Lacks q.marked r × (is_closed q.ends ≡ false) × (is_last_turn lease q.ends ≡ true → shut ≡ true)
EndsAs lease q r Gone = Has q.marked r
EndsAs lease q r Told = Lacks q.marked r × (is_closed q.ends ≡ true)

-- the conditions of a move, on a line with this configuration: a node makes a request if its last one, if any, is
-- clear; a request is marked, once, while it waits behind the one at its turn
abbrev pub CanMove : LineConfig → Queue → Move → Type 0
CanMove config q (ask node) = (1 ≤ node) × (node ≤ config.nodes) × (1 ≤ count_of node q.order → Has q.clear (last_of node q.order))
CanMove config q (mark r) = (p : ℕ) × (length q.ends < p) × (slice_get q.order p ≡ Some r) × Lacks q.marked r
CanMove config q (finish end) = (r : Request) × (turn_of q.order q.ends ≡ Some r) × EndsAs config.lease q r end

-- the queue after a move
abbrev pub moved : Queue → Move → Queue
moved q (ask node) = record q { order = q.order ++ next_of node q.order ∷ [] }
moved q (mark r) = record q { marked = q.marked ++ r ∷ [] }
moved q (finish end) = record q { ends = q.ends ++ end ∷ [] }

-- only the clear list has changed, and it has grown
abbrev pub HasCleared : Queue → Queue → Type 0
HasCleared old new = (clear : List Request) × Clears old.order (length old.ends) old.clear clear × (new ≡ record old { clear = clear })

-- the queue makes these moves, each of which is allowed; before, between and after them ended requests may be cleared
abbrev pub Runs : LineConfig → Queue → List Move → Queue → Type 0
Runs config old [] new = HasCleared old new
Runs config old (move ∷ moves) new = (now : Queue) × HasCleared old now × CanMove config now move × Runs config (moved now move) moves new
