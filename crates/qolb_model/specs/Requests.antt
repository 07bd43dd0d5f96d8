-- Requests, and the order in which they were made. A requester puts itself at the head of the line's list, and the
-- oldest requester is at the tail. An order is a list in which the oldest request is first, and places are counted from
-- 0. (The sharing list is from IEEE Std 1596-1992, and using it as a queue is from Goodman, Vernon and Woest, 1989.)
use Rattle.std.specs.Prelude.{◌≡◌, ◌≢◌, ℕ, ◌+◌, ◌<◌, ◌≤◌, ◌==◌, ◌&&◌, Bool, true, false, List, count_by, Some, slice_get}
use Rattle.std.specs.List.{list_any}
use Rattle.qolb_model.specs.declared.request.Request.{Request}

-- the two requests are the same
abbrev pub is_same : Request → Request → Bool
is_same r s = (r.node == s.node) && (r.number == s.number)

-- the request is one of these
abbrev pub has : List Request → Request → Bool
has requests r = list_any (is_same r) requests

abbrev pub Has : List Request → Request → Type 0
Has requests r = has requests r ≡ true

-- the request is none of these
abbrev pub Lacks : List Request → Request → Type 0
Lacks requests r = has requests r ≡ false

-- the number of requests that a node has made
abbrev pub count_of : ℕ → List Request → ℕ
count_of node order = count_by (λ r. r.node == node) order

-- the node's last request, or, if it has made none, its request with number 0, which no request has
abbrev pub last_of : ℕ → List Request → Request
last_of node order = record { node = node; number = count_of node order }

-- the node's next request
abbrev pub next_of : ℕ → List Request → Request
next_of node order = record { node = node; number = count_of node order + 1 }

-- no two of the requests from the first of these places up to just before the last are of one node
abbrev pub AreOfDifferentNodes : List Request → ℕ → ℕ → Type 0
AreOfDifferentNodes order first last = (p q : ℕ) (r s : Request) → first ≤ p → p < q → q < last → slice_get order p ≡ Some r → slice_get order q ≡ Some s → r.node ≢ s.node

-- the requests at these places are of different nodes, and none is of this node
pub record AreOfOthers (node : ℕ) (order : List Request) (places : List ℕ) : Type 0 where
  pub others : (i p : ℕ) (r : Request) → slice_get places i ≡ Some p → slice_get order p ≡ Some r → r.node ≢ node
  pub apart : (i j p q : ℕ) (r s : Request) → i < j → slice_get places i ≡ Some p → slice_get places j ≡ Some q → slice_get order p ≡ Some r → slice_get order q ≡ Some s → r.node ≢ s.node
