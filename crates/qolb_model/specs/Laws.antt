-- Theorems about histories, and about several views that belong to one history. The definitions of this crate must
-- imply at least these theorems. The theorems in this file were stated for this project; none is taken from the
-- literature.
use Rattle.std.specs.Prelude.{◌≡◌, ◌≢◌, ℕ, ◌+◌, ◌<◌, ◌≤◌, true, false, List, [], ◌∷◌, length, take, slice_get, filter, Option, None, Some}
use Rattle.std.specs.List.{sum_by}
use mathlib.Core.List.{IsPrefix}
use Rattle.qolb_model.specs.declared.answer.Enq.{Enq}
use Rattle.qolb_model.specs.declared.answer.Enq.TheVariants.{Busy}
use Rattle.qolb_model.specs.declared.answer.PortState.TheVariants.{Holding}
use Rattle.qolb_model.specs.declared.request.Request.{Request}
use Rattle.qolb_model.specs.declared.end.End.{End}
use Rattle.qolb_model.specs.declared.config.LineConfig.{LineConfig}
use Rattle.qolb_model.specs.declared.view.View.{View}
use Rattle.qolb_model.specs.declared.write.Write.{Write}
use Rattle.qolb_model.specs.Ends.{is_closed, bytes_after}
use Rattle.qolb_model.specs.EndKinds.{is_served}
use Rattle.qolb_model.specs.Leases.{served, IsLease, turns_left}
use Rattle.qolb_model.specs.Histories.{IsLegal}
use Rattle.qolb_model.specs.Views.{own, bytes_of, Extends}
use Rattle.qolb_model.specs.AtTurn.{IsBoundedBypass, IsQueued, IsGranted}
use Rattle.qolb_model.specs.OneHistory.{IsAmong, OneHistory}
use Rattle.qolb_model.specs.Releasing.{IsTold}
use Rattle.qolb_model.specs.Finishing.{IsFinished}
use Rattle.qolb_model.specs.Sums.{sum_of_all, sum_of_own, KnowsOwnPlaces, HasNotShut}
use Rattle.qolb_model.specs.Kept.{AreAllowed}
use Rattle.qolb_model.specs.Opening.{AreNew}
use Rattle.qolb_model.specs.Meeting.{Meets}
use Rattle.qolb_model.specs.Calls.{Enqueues, LooksIfClear}
use Rattle.qolb_model.specs.OneOwner.{OwnerState}
use Rattle.qolb_model.specs.Plain.{IsReached}

-- two places of a legal order that have the same request are one place
abbrev pub NoRequestStandsTwice : Type 0
NoRequestStandsTwice = (lease : Option ℕ) (order : List Request) (ends : List End) → IsLegal lease order ends
    → (p q : ℕ) (r : Request) → slice_get order p ≡ Some r → slice_get order q ≡ Some r → p ≡ q

-- an end after the one that closed the line is not served
abbrev pub NoneIsServedAfterClosing : Type 0
NoneIsServedAfterClosing = (lease : Option ℕ) (order : List Request) (ends : List End) → IsLegal lease order ends
    → (p : ℕ) (e : End) → slice_get ends p ≡ Some e → is_closed (take p ends) ≡ true → is_served e ≡ false

-- under a lease of n turns at most n turns are served, and after n turns the line is closed
abbrev pub LeaseBounds : Type 0
LeaseBounds = (turns : ℕ) (order : List Request) (ends : List End) → 1 ≤ turns → IsLegal (Some turns) order ends
    → (served ends ≤ turns) × (served ends ≡ turns → is_closed ends ≡ true)

-- an open line has at least one turn left
abbrev pub OpenLineHasTurns : Type 0
OpenLineHasTurns = (lease : Option ℕ) (order : List Request) (ends : List End) → IsLease lease → IsLegal lease order ends → is_closed ends ≡ false → turns_left lease ends ≢ Some 0

-- the bytes after a list of ends are the bytes after the served ends among them
abbrev pub OnlyServedEndsWrite : Type 0
OnlyServedEndsWrite = (bytes : List ℕ) (ends : List End) → bytes_after bytes (filter is_served ends) ≡ bytes_after bytes ends

-- bytes that are good stay good under turns that keep the data invariant
abbrev pub GoodStaysGood : (List ℕ → Type 0) → (List ℕ → List ℕ → Type 0) → Type 0
GoodStaysGood good allows = (bytes : List ℕ) (ends : List End) → good bytes → AreAllowed allows bytes ends → good (bytes_after bytes ends)

-- a clear port is not busy at its next request
abbrev pub ClearPortIsNotBusy : (List ℕ → List ℕ → Type 0) → Type 0
ClearPortIsNotBusy allows = (old clear new : View) (turn : Write) (answer : Enq) → LooksIfClear allows old clear true → Enqueues allows clear new turn answer → answer ≢ Busy

-- extending is transitive: a view that was extended twice was extended
abbrev pub ExtendsThrough : Type 0
ExtendsThrough = (u v w : View) → Extends u v → Extends v w → Extends u w

-- any part of the views of one history is of one history
abbrev pub PartIsOfOneHistory : Type 0
PartIsOfOneHistory = (views part : List View) → OneHistory views → ((v : View) → IsAmong part v → IsAmong views v) → OneHistory part

-- any two views of one history are of one history
abbrev pub EachTwoAreOfOneHistory : Type 0
EachTwoAreOfOneHistory = (views : List View) (v w : View) → OneHistory views → IsAmong views v → IsAmong views w → OneHistory (v ∷ w ∷ [])

-- of two views of one history, the one with fewer ends knows a prefix of the other's ends
abbrev pub FewerEndsBegin : Type 0
FewerEndsBegin = (views : List View) (v w : View) → OneHistory views → IsAmong views v → IsAmong views w → length v.ends ≤ length w.ends → IsPrefix v.ends w.ends

-- two views of one history that know the same number of ends know the same bytes
abbrev pub SameEndsSameBytes : Type 0
SameEndsSameBytes = (views : List View) (v w : View) → OneHistory views → IsAmong views v → IsAmong views w → length v.ends ≡ length w.ends → bytes_of v ≡ bytes_of w

-- two views of one history that both hold are of one node
abbrev pub OneNodeHolds : Type 0
OneNodeHolds = (views : List View) (v w : View) → OneHistory views → IsAmong views v → IsAmong views w → v.state ≡ Holding → w.state ≡ Holding → v.node ≡ w.node

-- Bounded bypass. Once a port was answered that its request, at place p, is behind others, fewer requests end before it
-- than its line has nodes, whatever other nodes do. As far as the port knows, that number may have ended, and its own
-- request has not.
abbrev pub BoundedBypass : Type 0
BoundedBypass = (asked later : View) (p : ℕ) → IsBoundedBypass asked → slice_get asked.order p ≡ Some (own asked) → Extends asked later → length later.ends ≤ p
    → length later.ends < length asked.ends + asked.config.nodes

-- Therefore, at its turn, fewer requests have ended since that answer than the line has nodes.
abbrev pub FewTurnsBefore : Type 0
FewTurnsBefore = (asked later : View) (turn : Write) → IsQueued asked → Extends asked later → later.count ≡ asked.count → OneHistory (later ∷ []) → IsGranted later turn
    → length later.ends < length asked.ends + asked.config.nodes

-- On a line with one owner, no more requests are open than the line has nodes. Therefore at most one fewer than that
-- end before any request that waits.
abbrev pub FewWaitAtOnce : Type 0
FewWaitAtOnce = (s : OwnerState) → IsReached s → length s.queue.order ≤ length s.queue.ends + s.config.nodes

-- the ports that `open` returns are of one history
abbrev pub NewPortsAreOfOneHistory : Type 0
NewPortsAreOfOneHistory = (label : ℕ) (config : LineConfig) (views : List View) → AreNew label config views → OneHistory views

-- two ports that have met know the same lists
abbrev pub PortsThatMetKnowTheSame : Type 0
PortsThatMetKnowTheSame = (v w v' w' : View) → OneHistory (v ∷ w ∷ []) → Meets v w v' → Meets w v w' → (v'.order ≡ w'.order) × (v'.ends ≡ w'.ends) × (v'.clear ≡ w'.clear)

-- For a finished line whose ports know the places of their requests, the sum of the changes by all served turns is the
-- sum of the changes by each port's own turns.
abbrev pub SumsAreOfEachPort : (List ℕ → Type 0) → (List ℕ → List ℕ → Type 0) → Type 0
SumsAreOfEachPort good allows = (does : List ℕ → List ℕ → ℕ) (label : ℕ) (config : LineConfig) (views : List View) (bytes : List ℕ) (finished : IsFinished good allows label config views bytes)
    → ((v : View) → IsAmong views v → KnowsOwnPlaces v) → sum_of_all does config.opening.bytes finished.history.ends ≡ sum_by (sum_of_own does) views

-- If none of its ports has shut such a line, it is closed only if its lease is used up.
abbrev pub ClosedByLeaseAlone : (List ℕ → Type 0) → (List ℕ → List ℕ → Type 0) → Type 0
ClosedByLeaseAlone good allows = (label : ℕ) (config : LineConfig) (views : List View) (bytes : List ℕ) (finished : IsFinished good allows label config views bytes)
    → ((v : View) → IsAmong views v → KnowsOwnPlaces v) → ((v : View) → IsAmong views v → HasNotShut v) → is_closed finished.history.ends ≡ true → config.lease ≡ Some (served finished.history.ends)

-- If such a line also had no lease, no request was told that the line is closed.
abbrev pub NoneIsTold : (List ℕ → Type 0) → (List ℕ → List ℕ → Type 0) → Type 0
NoneIsTold good allows = (label : ℕ) (config : LineConfig) (views : List View) (bytes : List ℕ) → IsFinished good allows label config views bytes
    → ((v : View) → IsAmong views v → KnowsOwnPlaces v) → ((v : View) → IsAmong views v → HasNotShut v) → config.lease ≡ None → (v : View) → IsAmong views v → ¬ IsTold v
