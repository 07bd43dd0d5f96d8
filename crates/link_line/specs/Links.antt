-- The invariant of the link line's table. The words and the slot of the table represent a state of the core, and this
-- state represents a single queue of requests (a refinement mapping).
use Rattle.std.specs.Prelude.{◌≡◌, ◌⊎◌, ℕ, ◌+◌, ◌<◌, ◌≤◌, Bool, true, false, List, [], ◌∷◌, map, length, slice_index, slice_get, Some}
use mathlib.Core.List.{IsPrefix}
use mathlib.Core.Option.{some}
use mathlib.Core.Option as maybe
use lib.ListN.{get_elem?}
use Rattle.atomic_table.specs.Table.{State}
use Rattle.qolb_model.specs.declared.answer.PortState.{PortState}
use Rattle.qolb_model.specs.declared.answer.PortState.TheVariants as port_state
use Rattle.qolb_model.specs.declared.request.Request.{Request}
use Rattle.qolb_model.specs.declared.end.End.{End}
use Rattle.qolb_model.specs.declared.view.View.{View}
use Rattle.qolb_model.specs.EndKinds.{is_gone}
use Rattle.qolb_model.specs.Entries.{AreMembers}
use Rattle.qolb_model.specs.Ends.{bytes_after}
use Rattle.qolb_model.specs.Histories.{Clears}
use Rattle.qolb_model.specs.Kept.{AreAllowed}
use Rattle.qolb_model.specs.Opening.{MayOpen}
use Rattle.qolb_model.specs.PortStates.{state_after}
use Rattle.qolb_model.specs.Queue.{Queue}
use Rattle.qolb_model.specs.Requests.{Has, Lacks, has, count_of, last_of}
use Rattle.qolb_model.specs.Views.{IsSubset}
use Rattle.link_core.specs.declared.point.Point.{Point}
use Rattle.link_core.specs.declared.point.Point.TheVariants.{Idle, Ready, Linking, Queued, Holding, Leaving, Marking, Granting, Freeing, Left, Rolled, Shut}
use Rattle.link_core.specs.declared.seat.ReleaseCause.{ReleaseCause}
use Rattle.link_core.specs.declared.seat.ReleaseCause.TheVariants.{Own, Closing, Refused}
use Rattle.link_core.specs.declared.seat.NodeCall.{NodeCall}
use Rattle.link_core.specs.declared.place.Place.{Place}
use Rattle.link_core.specs.declared.place.Place.TheVariants.{Home, Mailbox, Hand}
use Rattle.link_core.specs.declared.state.State.{State as Core}
use Rattle.link_core.specs.declared.state.TheConstants.{PLACES}
use Rattle.link_core.specs.State.{entry, seat, point, IsNode, no_mask}
use Rattle.link_core.specs.Steps.{turns_after}
use Rattle.link_core.specs.Places.{requester_at, IsLast}
use Rattle.link_core.specs.Shown.{has_line, Shows}
use Rattle.line_generic.specs.declared.table.Payload.{Payload}
use Rattle.line_generic.specs.declared.table.TableKey.{TableKey}
use Rattle.line_generic.specs.NodeGhosts.{node_of}
use Rattle.link_line.specs.Ghost.{LinkGhost, mask_of}
use Rattle.link_line.specs.Layout.{home_at, entry_at, word_count, pack}

-- the member of the list at the place
abbrev pub At : {A : Type 0} → List A → ℕ → A → Type 0
At xs p x = slice_get xs p ≡ Some x

-- the point is in a release that has the line
abbrev pub is_leaving : Point → Bool
is_leaving (Leaving e) = true
is_leaving (Marking e) = true
is_leaving (Granting m) = true
is_leaving _ = false

-- a release for this cause leaves a closed line
abbrev pub is_shut_by : ReleaseCause → Bool
is_shut_by Own = false
is_shut_by Closing = true
is_shut_by Refused = true

-- a node in a release holds the line until its own request has ended
abbrev pub state_in_release : ReleaseCause → List ℕ → PortState
state_in_release r [] = port_state.Holding
state_in_release r (m ∷ ms) = state_after (is_shut_by r)

-- the state of a port whose node is at the point
abbrev pub state_at : Point → ReleaseCause → List ℕ → PortState
state_at Idle r passed = port_state.Idle
state_at Ready r passed = port_state.Idle
state_at (Linking q) r passed = port_state.Linking
state_at Queued r passed = port_state.Queued
state_at Holding r passed = port_state.Holding
state_at (Leaving e) r passed = state_in_release r passed
state_at (Marking e) r passed = state_in_release r passed
state_at (Granting m) r passed = state_in_release r passed
state_at Freeing r passed = state_after (is_shut_by r)
state_at Left r passed = port_state.Left
state_at Rolled r passed = port_state.Rolled
state_at Shut r passed = port_state.Shut

abbrev pub state_of : NodeCall → PortState
state_of s = state_at s.point s.reason s.passed

abbrev pub serves : ReleaseCause → Bool
serves Own = true
serves Closing = true
serves Refused = false

-- in a release, the node's own request must still end, as served
pub record MayServe (s : NodeCall) : Type 0 where
  pub leaves : is_leaving s.point ≡ true
  pub passed : s.passed ≡ []
  pub serves : serves s.reason ≡ true

-- The core after the last atomic step, and the queue that it shows; the requests that are joined; and the withdrawn
-- requests whose nodes were freed: first those that were not clear at that time, and then those that were.
pub record History : Type 0 where
  pub core : Core
  pub queue : Queue
  pub joined : List Request
  pub early : List Request
  pub late : List Request

-- What holds of the node n. It has several parts, each about what that part reads of the history.

-- the node's identity: its number, and its line's label and config
pub record IdentityInv (key : TableKey) (n : ℕ) (v : View) : Type 0 where
  pub node : v.node ≡ n
  pub label : v.label ≡ key.label
  pub config : v.config ≡ key.config

-- The view's lists are prefixes of the queue's. They include the end of every own request that was served or told that
-- the line is closed, and which of the own requests are withdrawn.
pub record ViewInv (q : Queue) (n : ℕ) (v : View) : Type 0 where
  pub orders : IsPrefix v.order q.order
  pub endings : IsPrefix v.ends q.ends
  pub clears : IsPrefix v.clear q.clear
  pub counts : count_of n q.order ≡ v.count
  pub placed : (p : ℕ) → IsLast q.order n p → p < length v.order
  pub own_ends : (p : ℕ) (r : Request) (e : End) → At q.order p r → r.node ≡ n → At q.ends p e → is_gone e ≡ false → p < length v.ends
  pub own_marks : (r : Request) → r.node ≡ n → has v.marked r ≡ has q.marked r
  pub all_marked : IsSubset v.marked q.marked

-- The view has those of the node's own requests that are joined. If it has a freed request and the joined request
-- behind it, it has the freed one as clear, whichever of the two it learned last.
pub record JoinedInv (x : History) (n : ℕ) (v : View) : Type 0 where
  pub own_joined : (r : Request) → r.node ≡ n → Has x.joined r → Has v.joined r
  pub all_joined : IsSubset v.joined x.joined
  pub all_freed : (r : Request) → Has v.freed r → Has x.early r ⊎ Has x.late r
  pub joined_last : (p : ℕ) (r next : Request) → At x.queue.order p r → At x.queue.order (p + 1) next → Has x.early r → Has v.joined next → Has v.clear r
  pub freed_last : (r : Request) → Has v.freed r → Has x.late r → Has v.clear r

-- in a release, the node's line is that of the core, with the turns that will be left once its own request has ended
pub record IsInHand (c : Core) (n : ℕ) (s : NodeCall) (line : Payload) : Type 0 where
  pub bytes : line.bytes ≡ c.bytes
  pub closed : line.closed ≡ c.closed
  pub turns : line.turns_left ≡ turns_after n c
  pub mask : MayServe s → mask_of line ≡ c.mask
  pub shut : line.closed ≡ is_shut_by s.reason

-- The node's point in its call, and its line. The core does not have the writes of a holder yet. If the node's release
-- has left the line with a node that it passed, it knows the request behind.
pub record PointInv (c : Core) (ends : List End) (n : ℕ) (e : LinkGhost) : Type 0 where
  pub seat : e.own.seat ≡ seat c n
  pub state : e.view.state ≡ state_of e.own.seat
  pub holds : has_line e.own.seat.point ≡ true → e.view.ends ≡ ends
  pub unwritten : e.own.seat.point ≡ Holding → c.mask ≡ no_mask
  pub carries : is_leaving e.own.seat.point ≡ true → IsInHand c n e.own.seat e.own.line
  pub left : e.own.seat.point ≡ Freeing → (i x p : ℕ) → At e.own.seat.passed i x → At e.own.passed i p → (entry c x).done ≡ true → (entry c x).link ≡ 0 → p + 1 < length e.view.order

-- the places of the requests that the node has passed are those of their nodes' last ones
pub record PassedInv (order : List Request) (e : LinkGhost) : Type 0 where
  pub places : e.own.seat.passed ≡ map (requester_at order) e.own.passed
  pub last : (i p : ℕ) → At e.own.passed i p → IsLast order (requester_at order p) p
  pub known : (i p : ℕ) → At e.own.passed i p → p < length e.view.order
  pub within : (i p : ℕ) → At e.own.passed i p → p ≤ length e.view.ends
  pub ended : e.own.seat.point ≡ Freeing → (i p : ℕ) → At e.own.passed i p → p < length e.view.ends

-- all parts of what holds of the node
pub record NodeInv (key : TableKey) (x : History) (n : ℕ) (e : LinkGhost) : Type 0 where
  pub who : IdentityInv key n e.view
  pub knows : ViewInv x.queue n e.view
  pub joins : JoinedInv x n e.view
  pub stands : PointInv x.core x.queue.ends n e
  pub passes : PassedInv x.queue.order e

abbrev pub Homes : Type 0
Homes = List (maybe.Option Payload)

-- the slot has the core's line
pub record SlotHasLine (c : Core) (homes : Homes) : Type 0 where
  pub line : Payload
  pub at : get_elem? homes 0 ≡ some (some line)
  pub bytes : line.bytes ≡ c.bytes
  pub closed : line.closed ≡ c.closed
  pub turns : line.turns_left ≡ c.left

-- the slot has the line, unless a seat has the slot
abbrev pub InSlot : Core → Homes → Place → Type 0
InSlot c homes Home = SlotHasLine c homes
InSlot c homes (Mailbox n) = SlotHasLine c homes
InSlot c homes (Hand n) = Unit {0}

-- the words and the slot represent the core
pub record Represents (c : Core) (words : List ℕ) (homes : Homes) : Type 0 where
  pub wide : length words ≡ word_count c.nodes
  pub deep : length homes ≡ 1
  pub home : slice_index words home_at ≡ c.home
  pub entries : (n : ℕ) → IsNode c n → slice_index words (entry_at n) ≡ pack (entry c n)
  pub slot : InSlot c homes c.place

-- the request is its node's last, and is withdrawn and freed
pub record IsFreed (c : Core) (order : List Request) (r : Request) : Type 0 where
  pub at : ℕ
  pub here : At order at r
  pub last : IsLast order r.node at
  pub rolled : point c r.node ≡ Rolled
  pub freed : (entry c r.node).freed ≡ true

module _ (allows : List ℕ → List ℕ → Type 0) (key : TableKey) where
  -- what holds of the history alone
  pub record HistoryInv (x : History) : Type 0 where
    pub entries : length x.core.entries ≡ PLACES
    pub seats : length x.core.seats ≡ PLACES
    pub shown : Shows key.config x.core x.queue
    pub cleared : Clears x.queue.order (length x.queue.ends) [] x.queue.clear
    pub kept : AreAllowed allows key.config.opening.bytes x.queue.ends
    pub lawful : (n : ℕ) → IsNode x.core n → MayServe (seat x.core n) → allows (bytes_after key.config.opening.bytes x.queue.ends) x.core.bytes.bytes
    pub joined : (r : Request) → Has x.joined r → Has x.queue.order r
    pub unjoined : (n q : ℕ) → IsNode x.core n → point x.core n ≡ Linking q → Lacks x.joined (last_of n x.queue.order)
    pub waiting : (n : ℕ) → IsNode x.core n → point x.core n ≡ Queued → Has x.joined (last_of n x.queue.order)
    pub freed : (r : Request) → Has x.early r ⊎ Has x.late r → Has x.queue.clear r ⊎ IsFreed x.core x.queue.order r

module _ (good : List ℕ → Type 0) (allows : List ℕ → List ℕ → Type 0) (key : TableKey) where
  pub record LinkRule (s : State Payload (List LinkGhost)) : Type 0 where
    pub history : History
    pub who : ℕ → LinkGhost
    pub owner : ℕ → ℕ × ℕ
    pub may_open : MayOpen key.config
    pub opened_good : good key.config.opening.bytes
    pub history_inv : HistoryInv allows key history
    pub represents : Represents history.core s.words s.homes
    pub each : (n : ℕ) → 0 < n → n ≤ key.config.nodes → NodeInv key history n (who n)
    pub members : AreMembers node_of key.config.nodes who owner s.views
