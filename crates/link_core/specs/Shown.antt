-- The abstract queue that a state of the core represents (a refinement mapping). Each clause refers to requests by
-- their places in the order. The requests at places below `length ends` have ended, and the request at the place
-- `length ends` has the turn. The open requests are those from the place `length ends` on. They belong to the nodes in
-- the list, and the oldest request is first. (The list of a line's requesters, whose head is recorded at the line's
-- home, is from IEEE Std 1596-1992. Queueing at the line and handing it over from the tail are from Goodman, Vernon and
-- Woest, 1989. The reversed links, the flags, and the queue that they represent are this project's own.)
use Rattle.std.specs.Prelude.{◌≡◌, ◌≢◌, ℕ, ◌+◌, ◌<◌, ◌≤◌, Bool, true, false, ◌||◌, List, [], ◌∷◌, ◌⊎◌, length, Some, slice_get, slice_index_or}
use Rattle.link_core.specs.declared.point.Point.{Point}
use Rattle.link_core.specs.declared.point.Point.TheVariants.{Idle, Ready, Linking, Queued, Holding, Leaving, Marking, Granting, Freeing, Left, Rolled, Shut}
use Rattle.link_core.specs.declared.seat.ReleaseCause.{ReleaseCause}
use Rattle.link_core.specs.declared.seat.ReleaseCause.TheVariants.{Own, Closing, Refused}
use Rattle.link_core.specs.declared.place.Place.TheVariants.{Home, Mailbox, Hand}
use Rattle.line_lanes.specs.Line.{merged}
use Rattle.link_core.specs.Places.{request, requester_at, IsLast}
use Rattle.qolb_model.specs.declared.config.LineConfig.{LineConfig}
use Rattle.qolb_model.specs.Ends.{is_closed, bytes_after}
use Rattle.qolb_model.specs.Leases.{is_last_turn, turns_left}
use Rattle.qolb_model.specs.EndKinds.{is_gone}
use Rattle.qolb_model.specs.Histories.{IsLegal}
use Rattle.qolb_model.specs.Queue.{Queue}
use Rattle.qolb_model.specs.Requests.{Has, count_of, has}
use Rattle.qolb_model.specs.declared.end.End.{End}
use Rattle.qolb_model.specs.declared.end.End.TheVariants.{Served, Gone, Told}
use Rattle.qolb_model.specs.declared.request.Request.{Request}
use Rattle.link_core.specs.State.{State, empty, entry, seat, point, IsNode, current, is_clear}

-- the points at which a node has withdrawn its request, has the line in its hand, waits or has it, and frees the nodes
-- that it passed
abbrev pub is_rolled : Point → Bool
is_rolled Rolled = true
is_rolled _ = false

abbrev pub has_line : Point → Bool
has_line Holding = true
has_line (Leaving e) = true
has_line (Marking e) = true
has_line (Granting m) = true
has_line _ = false

abbrev pub is_active : Point → Bool
is_active (Linking q) = true
is_active Queued = true
is_active p = has_line p

abbrev pub is_freeing : Point → Bool
is_freeing Freeing = true
is_freeing _ = false

-- the end of a request whose node releases the line for this cause
abbrev pub ByReason : ReleaseCause → End → Type 0
ByReason Own (Served w shut) = shut ≡ false
ByReason Closing (Served w shut) = shut ≡ true
ByReason Refused Told = Unit {0}
ByReason _ _ = ⊥

-- n's last request has ended, for this cause
pub record EndedBy (order : List Request) (ends : List End) (n : ℕ) (r : ReleaseCause) : Type 0 where
  pub at : ℕ
  pub end : End
  pub last : IsLast order n at
  pub ended : slice_get ends at ≡ Some end
  pub how : ByReason r end

-- n's last request, if any, has ended
abbrev pub HasEnded : List Request → List End → ℕ → Type 0
HasEnded order ends n = (p : ℕ) → IsLast order n p → p < length ends

-- the line is as it is after all ends
pub record IsWhole (config : LineConfig) (c : State) (ends : List End) : Type 0 where
  pub bytes : c.bytes.bytes ≡ bytes_after config.opening.bytes ends
  pub closed : c.closed ≡ is_closed ends

-- The line is in the hand of n, whose own request is at its turn. In the first case the line is open and has not been
-- closed, with the bytes after the ends except for what this turn wrote, and at the last turn of a lease n is not in a
-- release yet. In the second case this turn has closed the line. In the third case the line was closed before, and n
-- only forwards it.
abbrev pub IsHeld : LineConfig → State → List End → ℕ → ReleaseCause → Type 0
IsHeld config c ends n Own = (c.closed ≡ false) × (is_closed ends ≡ false) × (merged (bytes_after config.opening.bytes ends) c.bytes.bytes c.mask.0 ≡ c.bytes.bytes) × ((point c n ≡ Holding) ⊎ (is_last_turn config.lease ends ≡ false))
IsHeld config c ends n Closing = (c.closed ≡ true) × (is_closed ends ≡ false) × (merged (bytes_after config.opening.bytes ends) c.bytes.bytes c.mask.0 ≡ c.bytes.bytes)
IsHeld config c ends n Refused = (c.closed ≡ true) × (is_closed ends ≡ true) × (c.bytes.bytes ≡ bytes_after config.opening.bytes ends)

-- the line is in the hand of n, which has passed these nodes; if there are any, n's own request has ended, and nothing
-- is written
abbrev pub IsCarried : LineConfig → State → List Request → List End → ℕ → ReleaseCause → List ℕ → Type 0
IsCarried config c order ends n r [] = IsHeld config c ends n r
IsCarried config c order ends n r (m ∷ ms) = IsWhole config c ends × EndedBy order ends n r × (r ≡ Refused → is_closed ends ≡ true)

-- The place of the line. If no request is open, the line is at home. Otherwise it is in one of three places:
-- - in the hand of n, whose release has reached the request at its turn;
-- - in the mailbox of t, which waits and whose turn it is;
-- - in the mailbox of q, where t will find it when it links.
pub data Lies (config : LineConfig) (c : State) (order : List Request) (ends : List End) : Type 0 where
  at_home : length ends ≡ length order → c.place ≡ Home → IsWhole config c ends → Lies config c order ends
  in_hand : (n : ℕ) → length ends < length order → IsNode c n → c.place ≡ Hand n → has_line (point c n) ≡ true → requester_at order (length ends) ≡ current c n → IsCarried config c order ends n (seat c n).reason (seat c n).passed → Lies config c order ends
  granted : (t : ℕ) → length ends < length order → requester_at order (length ends) ≡ t → c.place ≡ Mailbox t → (entry c t).granted ≡ true → point c t ≡ Queued → IsWhole config c ends → Lies config c order ends
  left : (t q : ℕ) → length ends < length order → requester_at order (length ends) ≡ t → c.place ≡ Mailbox q → (entry c q).done ≡ true → (entry c q).link ≡ 0 → (point c q ≡ Left) ⊎ (point c q ≡ Rolled) → point c t ≡ Linking q → IsWhole config c ends → Lies config c order ends

-- neighbours among the open requests: the older one's link names the younger one, or the younger one is about to link
abbrev pub IsLinked : State → ℕ → ℕ → Type 0
IsLinked c predecessor younger = ((entry c predecessor).link ≡ younger) ⊎ (((entry c predecessor).link ≡ 0) × (point c younger ≡ Linking predecessor))

-- n must still link to q, which made the request just before n's last one
pub record IsBehind (c : State) (order : List Request) (ends : List End) (q n : ℕ) : Type 0 where
  pub at : ℕ
  pub node : IsNode c q
  pub before : IsLast order q at
  pub own : IsLast order n (at + 1)
  pub waits : length ends ≤ at + 1
  pub unlinked : (entry c q).link ≡ 0
  pub rolled : (entry c n).rolled ≡ false

-- n's last request is open and not withdrawn
pub record IsWaiting (c : State) (order : List Request) (ends : List End) (n : ℕ) : Type 0 where
  pub at : ℕ
  pub own : IsLast order n at
  pub waits : length ends ≤ at
  pub rolled : (entry c n).rolled ≡ false

-- the line is in n's hand, and n's release is at e
pub record IsReleasing (c : State) (n e : ℕ) : Type 0 where
  pub place : c.place ≡ Hand n
  pub is : current c n ≡ e

-- What the point of n means. At Marking, another request follows the one at its turn. At Granting, that request is m's,
-- and it is linked.
abbrev pub Sits : State → List Request → List End → ℕ → Point → Type 0
Sits c order ends n Idle = HasEnded order ends n
Sits c order ends n Ready = HasEnded order ends n × (entry c n ≡ empty)
Sits c order ends n Shut = HasEnded order ends n
Sits c order ends n Left = HasEnded order ends n
Sits c order ends n Freeing = EndedBy order ends n (seat c n).reason × ((seat c n).passed ≢ [])
Sits c order ends n (Linking q) = IsBehind c order ends q n
Sits c order ends n Queued = IsWaiting c order ends n
Sits c order ends n Rolled = (entry c n).rolled ≡ true
Sits c order ends n Holding = IsReleasing c n n × ((seat c n).reason ≡ Own) × ((seat c n).passed ≡ [])
Sits c order ends n (Leaving e) = IsReleasing c n e
Sits c order ends n (Marking e) = IsReleasing c n e × (length ends + 1 < length order)
Sits c order ends n (Granting m) = IsReleasing c n (current c n) × (length ends + 1 < length order) × (requester_at order (length ends + 1) ≡ m) × ((entry c (current c n)).link ≡ m)

-- the request at this place has the end Gone, or is at its turn with the line in n's hand
abbrev pub HasReached : State → List End → ℕ → ℕ → Type 0
HasReached c ends n at = (slice_get ends at ≡ Some Gone) ⊎ ((at ≡ length ends) × (c.place ≡ Hand n))

-- n's release has passed x and not freed it
pub record IsPassed (c : State) (order : List Request) (ends : List End) (n x : ℕ) : Type 0 where
  pub node : IsNode c x
  pub point : point c x ≡ Rolled
  pub kept : (entry c x).freed ≡ false
  pub at : ℕ
  pub last : IsLast order x at
  pub come : HasReached c ends n at

-- some node has the line in its hand and is about to grant
pub record IsGranting (c : State) : Type 0 where
  pub by : ℕ
  pub to : ℕ
  pub node : IsNode c by
  pub place : c.place ≡ Hand by
  pub point : point c by ≡ Granting to

-- The request of n at the place p is open. Its entry is not freed, is granted only at its turn, and is done only at its
-- turn while the next one is about to be granted.
pub record IsFresh (c : State) (turn n p : ℕ) : Type 0 where
  pub freed : (entry c n).freed ≡ false
  pub granted : (entry c n).granted ≡ true → p ≡ turn
  pub done : (entry c n).done ≡ true → (p ≡ turn) × IsGranting c

-- the i-th of the nodes that n has passed
abbrev pub passed : State → ℕ → ℕ → ℕ
passed c n i = slice_index_or (seat c n).passed i 0

-- what the releases have passed: no node is passed twice, and only a release has passed any
abbrev pub ArePassed : State → List Request → List End → Type 0
ArePassed c order ends = (n i : ℕ) → IsNode c n → i < length (seat c n).passed → IsPassed c order ends n (passed c n i)

abbrev pub IsOnce : State → Type 0
IsOnce c = (n m i j : ℕ) → IsNode c n → IsNode c m → i < length (seat c n).passed → j < length (seat c m).passed → passed c n i ≡ passed c m j → (n ≡ m) × (i ≡ j)

abbrev pub IsUnpassed : State → Type 0
IsUnpassed c = (n : ℕ) → IsNode c n → has_line (point c n) || is_freeing (point c n) ≡ false → (seat c n).passed ≡ []

-- n has left the line in its own mailbox, and no node is linked to its entry
pub record HasLeft (c : State) (n : ℕ) : Type 0 where
  pub point : point c n ≡ Left
  pub done : (entry c n).done ≡ true
  pub unlinked : (entry c n).link ≡ 0

-- While the line is in no hand, the request that ended last is clear, unless its end is Gone or its node has left the
-- line.
abbrev pub Rests : State → List Request → List End → List Request → Type 0
Rests c order ends clear = ((n : ℕ) → c.place ≢ Hand n) → (p : ℕ) (r : Request) (e : End) → p + 1 ≡ length ends → slice_get order p ≡ Some r → slice_get ends p ≡ Some e → is_gone e ≡ false → Has clear r ⊎ HasLeft c r.node

-- What is left behind: a done entry without a link has the line in its mailbox, and each link names a node.
pub record IsSettled (c : State) (order : List Request) (ends : List End) (clear : List Request) : Type 0 where
  pub boxed : (n : ℕ) → IsNode c n → (entry c n).done ≡ true → (entry c n).link ≡ 0 → c.place ≡ Mailbox n
  pub rests : Rests c order ends clear
  pub bounded : (n : ℕ) → IsNode c n → (entry c n).link ≤ c.nodes

-- the words, the line, the points and the lists of passed nodes fit the queue
pub record Matches (config : LineConfig) (c : State) (q : Queue) : Type 0 where
  -- the line is as it was opened, and has as many turns left as are not served
  pub opened : length config.opening.bytes ≡ 64
  pub size : c.nodes ≡ config.nodes
  pub turns : c.left ≡ turns_left config.lease q.ends
  -- the queue: a prefix of the requests has ended, and only requests that were made are marked or clear
  pub known : length q.ends ≤ length q.order
  pub nodes : (p : ℕ) → p < length q.order → IsNode c (requester_at q.order p)
  pub numbered : (p : ℕ) → p < length q.order → (request q.order p).number ≤ count_of (requester_at q.order p) q.order
  pub marked_known : (r : Request) → has q.marked r ≡ true → r.number ≤ count_of r.node q.order
  pub clear_known : (r : Request) → has q.clear r ≡ true → r.number ≤ count_of r.node q.order
  -- the open requests are their nodes' last ones, so the nodes are distinct; home names the newest, or is 0
  pub distinct : (p : ℕ) → length q.ends ≤ p → p < length q.order → IsLast q.order (requester_at q.order p) p
  pub home_idle : length q.ends ≡ length q.order → c.home ≡ 0
  pub home_last : (p : ℕ) → length q.ends ≤ p → p + 1 ≡ length q.order → c.home ≡ requester_at q.order p
  -- the links between neighbours; the newest has none
  pub links : (p : ℕ) → length q.ends ≤ p → p + 1 < length q.order → IsLinked c (requester_at q.order p) (requester_at q.order (p + 1))
  pub last_link : (p : ℕ) → length q.ends ≤ p → p + 1 ≡ length q.order → (entry c (requester_at q.order p)).link ≡ 0
  -- the line
  pub lies : Lies config c q.order q.ends
  -- an open request is marked exactly if its node is at Rolled; a node's last request is clear exactly if the node's
  -- point and entry say so
  pub marks : (p : ℕ) → length q.ends ≤ p → p < length q.order → has q.marked (request q.order p) ≡ is_rolled (point c (requester_at q.order p))
  pub clears : (n p : ℕ) → IsNode c n → IsLast q.order n p → has q.clear (request q.order p) ≡ is_clear (point c n) (entry c n)
  -- the points
  pub sits : (n : ℕ) → IsNode c n → Sits c q.order q.ends n (point c n)
  -- the entries of open requests
  pub fresh : (p : ℕ) → length q.ends ≤ p → p < length q.order → IsFresh c (length q.ends) (requester_at q.order p) p
  -- the passed nodes, and what is left behind
  pub passes : ArePassed c q.order q.ends
  pub once : IsOnce c
  pub unpassed : IsUnpassed c
  pub settled : IsSettled c q.order q.ends q.clear

-- A release leaves a chain of links behind it: the link of the releasing node's own entry, and the links of the nodes
-- that it has passed and not freed, except the last. If the release is about to grant, the entry that it has reached is
-- done.
pub record IsChained (c : State) : Type 0 where
  pub links : (n i : ℕ) → IsNode c n → i < length (seat c n).passed → (entry c (slice_index_or (n ∷ (seat c n).passed) i 0)).link ≢ 0
  pub done : (n m : ℕ) → IsNode c n → point c n ≡ Granting m → (entry c (current c n)).done ≡ true

-- A withdrawn node that was not granted waits behind the turn.
abbrev pub AreBehind : State → List Request → List End → Type 0
AreBehind c order ends = (n : ℕ) → IsNode c n → point c n ≡ Rolled → (entry c n).granted ≡ false → (p : ℕ) × IsLast order n p × (length ends < p)

-- the requests with the end Gone are those ended requests that were marked
pub record AreMarked (q : Queue) : Type 0 where
  pub gone : (p : ℕ) (r : Request) → slice_get q.order p ≡ Some r → slice_get q.ends p ≡ Some Gone → Has q.marked r
  pub marked : (p : ℕ) (r : Request) → slice_get q.order p ≡ Some r → p < length q.ends → Has q.marked r → slice_get q.ends p ≡ Some Gone

-- each request that is not its node's last is clear
abbrev pub AreEarlierClear : Queue → Type 0
AreEarlierClear q = (r : Request) → Has q.order r → r.number < count_of r.node q.order → Has q.clear r

-- The state shows the queue: the queue is legal, and the state matches it.
pub record Shows (config : LineConfig) (c : State) (q : Queue) : Type 0 where
  pub legal : IsLegal config.lease q.order q.ends
  pub gone : AreMarked q
  pub earlier : AreEarlierClear q
  pub matches : Matches config c q
  pub chained : IsChained c
  pub behind : AreBehind c q.order q.ends
