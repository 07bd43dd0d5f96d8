-- The invariant of the table of an array lock. The nodes of an array lock draw tickets, and wait on the cells of an
-- array.
use Rattle.std.specs.Prelude.{◌≡◌, ◌≢◌, ◌⊎◌, ℕ, ◌+◌, ◌<◌, ◌≤◌, List, [], length, slice_index, slice_get, Bool, true, false, if◌then◌else◌, Some}
use mathlib.Core.List.{IsPrefix}
use mathlib.Core.Option.{some}
use lib.ListN.{get_elem?}
use Rattle.atomic_table.specs.Table.{State}
use Rattle.qolb_model.specs.declared.answer.PortState.TheVariants as port_state
use Rattle.qolb_model.specs.declared.request.Request.{Request}
use Rattle.qolb_model.specs.declared.end.End.{End}
use Rattle.qolb_model.specs.Requests.{Has, Lacks, has, count_of}
use Rattle.qolb_model.specs.Ends.{is_closed, bytes_after}
use Rattle.qolb_model.specs.EndKinds.{is_gone}
use Rattle.qolb_model.specs.Histories.{IsLegal, Clears}
use Rattle.qolb_model.specs.declared.view.View.{View}
use Rattle.qolb_model.specs.PortStates.{may_ask}
use Rattle.qolb_model.specs.Leases.{turns_left}
use Rattle.qolb_model.specs.Views.{own}
use Rattle.qolb_model.specs.Kept.{AreAllowed}
use Rattle.qolb_model.specs.Opening.{MayOpen}
use Rattle.qolb_model.specs.Entries.{AreMembers}
use Rattle.line_cells.specs.declared.local.Point.{Point}
use Rattle.line_cells.specs.declared.local.Point.TheVariants.{Idle, Queued, Holding, Passing, Cleared, Freeing, Rolled}
use Rattle.line_generic.specs.declared.table.NodeGhost.{NodeGhost}
use Rattle.line_generic.specs.declared.table.TableKey.{TableKey}
use Rattle.line_generic.specs.declared.table.Payload.{Payload}
use Rattle.line_generic.specs.NodeGhosts.{node_of}
use Rattle.line_cells.specs.declared.local.Local.{Local}
use Rattle.line_cells.specs.SlotLayout.{SlotLayout, Homes, IsSpare}
use Rattle.line_cells.specs.Layout.{word_count, ticket_at, node_at, cells_in, ticket_of}

-- the member of the list at the place
abbrev pub At : {A : Type 0} → List A → ℕ → A → Type 0
At xs p x = slice_get xs p ≡ Some x

-- what the invariant knows of a node
abbrev pub ArrayGhost : Type 0
ArrayGhost = NodeGhost Local

-- a state of the table
abbrev pub ArrayState : Type 0
ArrayState = State Payload (List ArrayGhost)

-- the node has the line
abbrev pub has_line : Point → Bool
has_line Idle = false
has_line Queued = false
has_line Holding = true
has_line Passing = true
has_line Cleared = true
has_line Freeing = false
has_line Rolled = false

-- the node is in a release
abbrev pub is_releasing : Point → Bool
is_releasing Idle = false
is_releasing Queued = false
is_releasing Holding = false
is_releasing Passing = true
is_releasing Cleared = true
is_releasing Freeing = true
is_releasing Rolled = false

-- the node's last request is not clear, and not withdrawn
abbrev pub is_unfinished : Point → Bool
is_unfinished Idle = false
is_unfinished Queued = true
is_unfinished Holding = true
is_unfinished Passing = true
is_unfinished Cleared = true
is_unfinished Freeing = true
is_unfinished Rolled = false

-- the cell at its turn is cleared
abbrev pub is_cleared : Point → Bool
is_cleared Idle = false
is_cleared Queued = false
is_cleared Holding = false
is_cleared Passing = false
is_cleared Cleared = true
is_cleared Freeing = false
is_cleared Rolled = false

-- The history of the line. It has:
-- - the line's lists;
-- - the node that has the line, or 0, and whether the cell at its turn is cleared;
-- - for each place, the node that withdrew the request there, or 0, and the node whose release passed it;
-- - the word of each node.
pub record History : Type 0 where
  pub order : List Request
  pub ends : List End
  pub clear : List Request
  pub holder : ℕ
  pub cleared : Bool
  pub marks : ℕ → ℕ
  pub releaser_of : ℕ → ℕ
  pub flags : ℕ → ℕ

-- What holds of the node n with the ghost state e. It has several parts, each about what that part reads of the
-- history.

-- The node has passed the request at the place p and has not freed its node. (Each request is passed by one release, so
-- the lists of different releases share no place.)
pub record HasPassed (ended : ℕ) (clear : List Request) (marks releaser_of : ℕ → ℕ) (n : ℕ) (e : ArrayGhost) (p : ℕ) : Type 0 where
  pub in_release : is_releasing e.own.point ≡ true
  pub releaser_is : releaser_of p ≡ n
  pub within : p ≤ ended
  pub marked : 0 < marks p
  pub request : Request
  pub at : At e.view.order p request
  pub unclear : Lacks clear request

-- a node in a release has the line: either the request at its turn is its own and it has passed none, or that request
-- is withdrawn and passed
abbrev pub Walks : ℕ → (ℕ → ℕ) → ArrayGhost → Type 0
Walks ended marks e = ((e.own.place ≡ ended) × (e.own.passed ≡ [])) ⊎ ((e.own.place < ended) × (0 < marks ended) × (e.own.passed ≢ []))

-- the node's identity: its number, and its line's label and config
pub record IdentityInv (key : TableKey) (n : ℕ) (v : View) : Type 0 where
  pub node : v.node ≡ n
  pub label : v.label ≡ key.label
  pub config : v.config ≡ key.config

-- The view's lists are prefixes of the history's. They include the end of every own request that was served or told; an
-- own request that was withdrawn may have ended later.
pub record ViewInv (order : List Request) (ends : List End) (clear : List Request) (n : ℕ) (v : View) : Type 0 where
  pub orders : IsPrefix v.order order
  pub endings : IsPrefix v.ends ends
  pub clears : IsPrefix v.clear clear
  pub counts : count_of n order ≡ v.count
  pub own_ends : (p : ℕ) (r : Request) (end : End) → At order p r → r.node ≡ n → At ends p end → is_gone end ≡ false → p < length v.ends
  pub freed_clear : (r : Request) → Has v.freed r → Has v.clear r

-- the place of the node's last request; no other request of the node is open
pub record LastRequestInv (order : List Request) (ended n : ℕ) (e : ArrayGhost) : Type 0 where
  pub asked : e.own.point ≢ Idle → 0 < e.view.count
  pub placed : 0 < e.view.count → At e.view.order e.own.place (own e.view)
  pub last_open : (p : ℕ) (r : Request) → At order p r → r.node ≡ n → ended ≤ p → (0 < e.view.count) × (p ≡ e.own.place)
  pub idle : e.own.point ≡ Idle → 0 < e.view.count → (e.own.place < ended) × Has e.view.clear (own e.view)
  pub queued : e.own.point ≡ Queued → ended ≤ e.own.place
  pub holds_open : e.own.point ≡ Holding → e.own.place ≡ ended
  pub freeing : e.own.point ≡ Freeing → e.own.place < ended
  pub waits : is_unfinished e.own.point ≡ true → ended ≤ e.own.place → may_ask e.view.state ≡ false

-- the history's holder is this node exactly if it has the line
pub record HolderInv (ends : List End) (holder : ℕ) (cleared : Bool) (n : ℕ) (e : ArrayGhost) : Type 0 where
  pub holds : has_line e.own.point ≡ true → (e.view.ends ≡ ends) × (holder ≡ n) × (cleared ≡ is_cleared e.own.point)
  pub lacks : has_line e.own.point ≡ false → holder ≢ n
  pub is_holder : e.view.state ≡ port_state.Holding → (has_line e.own.point ≡ true) × (e.own.place ≡ length ends)

-- the requests that the node's release has passed
pub record WalkInv (ended : ℕ) (clear : List Request) (marks releaser_of : ℕ → ℕ) (n : ℕ) (e : ArrayGhost) : Type 0 where
  pub walking : is_releasing e.own.point ≡ true → has_line e.own.point ≡ true → Walks ended marks e
  pub freeing : e.own.point ≡ Freeing → (i p : ℕ) → At e.own.passed i p → p < ended
  pub passed : (i p : ℕ) → At e.own.passed i p → HasPassed ended clear marks releaser_of n e p
  pub once : (i j p : ℕ) → At e.own.passed i p → At e.own.passed j p → i ≡ j

-- the withdrawn requests of the node: only its last one can be not clear
pub record WithdrawnInv (order clear : List Request) (marks : ℕ → ℕ) (n : ℕ) (e : ArrayGhost) : Type 0 where
  pub unmarked : is_unfinished e.own.point ≡ true → marks e.own.place ≡ 0
  pub unclear : is_unfinished e.own.point ≡ true → Lacks clear (own e.view)
  pub rolled : e.own.point ≡ Rolled → marks e.own.place ≡ n
  pub known : (p : ℕ) (r : Request) → At order p r → r.node ≡ n → 0 < marks p → Has e.view.marked r
  pub last : (p : ℕ) (r : Request) → At order p r → r.node ≡ n → 0 < marks p → Lacks clear r → (e.own.point ≡ Rolled) × (e.own.place ≡ p)
  pub all : (r : Request) → Has e.view.marked r → (p : ℕ) × At order p r × (0 < marks p)

-- the node's own word
pub record FlagInv (clear : List Request) (flags : ℕ → ℕ) (n : ℕ) (e : ArrayGhost) : Type 0 where
  pub rolled : e.own.point ≡ Rolled → flags n ≡ (if has clear (own e.view) then 1 else 0)
  pub not_rolled : e.own.point ≢ Rolled → flags n ≡ 0

-- the requests that the node knows to be joined
pub record JoinedInv (order : List Request) (n : ℕ) (joined : List Request) : Type 0 where
  pub known : (p : ℕ) (r : Request) → At order p r → r.node ≡ n → Has joined r
  pub all : (r : Request) → Has joined r → Has order r

-- all parts of what holds of the node
pub record NodeInv (key : TableKey) (x : History) (n : ℕ) (e : ArrayGhost) : Type 0 where
  pub who : IdentityInv key n e.view
  pub knows : ViewInv x.order x.ends x.clear n e.view
  pub last_request : LastRequestInv x.order (length x.ends) n e
  pub holder : HolderInv x.ends x.holder x.cleared n e
  pub passes : WalkInv (length x.ends) x.clear x.marks x.releaser_of n e
  pub marks : WithdrawnInv x.order x.clear x.marks n e
  pub flag : FlagInv x.clear x.flags n e
  pub joins : JoinedInv x.order n e.view.joined

-- The invariant that a kind of line has of its cells. Its arguments are the number of ended requests, the node that has
-- the line (or 0), whether the cell at its turn is cleared, the mark of each place, and the word of each cell.
abbrev pub Cells : Type 1
Cells = ℕ → ℕ → Bool → (ℕ → ℕ) → (ℕ → ℕ) → Type 0

module _ (good : List ℕ → Type 0) (allows : List ℕ → List ℕ → Type 0) (key : TableKey) where
  -- what holds of the history alone
  pub record HistoryInv (x : History) : Type 0 where
    pub legal : IsLegal key.config.lease x.order x.ends
    pub nodes : (p : ℕ) (r : Request) → At x.order p r → (0 < r.node) × (r.node ≤ key.config.nodes)
    pub kept : AreAllowed allows key.config.opening.bytes x.ends
    pub sound : good (bytes_after key.config.opening.bytes x.ends)
    pub within : x.holder ≤ key.config.nodes
    pub cleared : Clears x.order (length x.ends) [] x.clear
    -- if no node has the line, the cell at its turn is not cleared, the request there is not withdrawn, and the request
    -- before it is settled
    pub nobody : x.holder ≡ 0 → (x.cleared ≡ false) × (x.marks (length x.ends) ≡ 0)
    pub settled : x.holder ≡ 0 → (p : ℕ) (r : Request) (end : End) → p + 1 ≡ length x.ends → At x.order p r → At x.ends p end → is_gone end ≡ false → Has x.clear r
    pub marked : (p : ℕ) → 0 < x.marks p → (r : Request) × At x.order p r × (r.node ≡ x.marks p)
    pub gone : (p : ℕ) (end : End) → At x.ends p end → (is_gone end ≡ true → 0 < x.marks p) × (0 < x.marks p → is_gone end ≡ true)

module _ (cells : Cells) (slot_layout : SlotLayout) (good : List ℕ → Type 0) (allows : List ℕ → List ℕ → Type 0) (key : TableKey) where
  -- the words and the slots represent the history (a representation relation)
  pub record Represents (x : History) (words : List ℕ) (homes : Homes) : Type 0 where
    pub more : key.config.nodes < slot_layout.cells
    pub wide : length words ≡ word_count slot_layout.cells
    pub deep : length homes ≡ slot_layout.count
    pub ticket : slice_index words ticket_at ≡ ticket_of (length x.order)
    pub said : cells (length x.ends) x.holder x.cleared x.marks (cells_in words)
    pub flags : (n : ℕ) → 0 < n → n ≤ key.config.nodes → slice_index words (node_at n) ≡ x.flags n
    pub home : x.holder ≡ 0 → (y : Payload) × (get_elem? homes (slot_layout.home_slot (length x.ends)) ≡ some (some y)) × (y.bytes.bytes ≡ bytes_after key.config.opening.bytes x.ends) × (y.closed ≡ is_closed x.ends) × (y.turns_left ≡ turns_left key.config.lease x.ends)
    pub spare : (k : ℕ) → k < slot_layout.count → (x.holder ≢ 0 → slot_layout.is_out (length x.ends) k → ⊥) → IsSpare (turns_left key.config.lease x.ends) (is_closed x.ends) homes k

  pub record ArrayRule (s : ArrayState) : Type 0 where
    pub history : History
    pub who : ℕ → ArrayGhost
    pub owner : ℕ → ℕ × ℕ
    pub may_open : MayOpen key.config
    pub line : length key.config.opening.bytes ≡ 64
    pub history_inv : HistoryInv good allows key history
    pub shown : Represents history s.words s.homes
    pub each : (n : ℕ) → 0 < n → n ≤ key.config.nodes → NodeInv key history n (who n)
    pub members : AreMembers node_of key.config.nodes who owner s.views
