-- A history of a line: the order in which requests were made, and how the first requests in this order ended. The
-- definitions in this file were made for this project; none is taken from the literature.
use Rattle.std.specs.Prelude.{◌≡◌, ℕ, ◌+◌, ◌<◌, ◌≤◌, List, ◌++◌, [], ◌∷◌, length, take, drop, Option, Some, slice_get}
use Rattle.qolb_model.specs.declared.request.Request.{Request}
use Rattle.qolb_model.specs.declared.end.End.{End}
use Rattle.qolb_model.specs.Requests.{Lacks, count_of}
use Rattle.qolb_model.specs.Ends.{is_closed, MayEnd}
use Rattle.qolb_model.specs.Leases.{is_last_turn}

-- the request at its turn, which is the first one that has no end
abbrev pub turn_of : List Request → List End → Option Request
turn_of order ends = slice_get order (length ends)

-- the requests that have ended, and the requests that have not
abbrev pub ended_of : List Request → List End → List Request
ended_of order ends = take (length ends) order

abbrev pub open_of : List Request → List End → List Request
open_of order ends = drop (length ends) order

-- Each node's requests are numbered 1, 2 and so on, so none occurs twice. Requests end in their order. The last turn of
-- the lease closes the line. After the end that closes the line, requests are withdrawn or told that it is closed, and
-- before that end no request is told so.
pub record IsLegal (lease : Option ℕ) (order : List Request) (ends : List End) : Type 0 where
  pub numbered : (p : ℕ) (r : Request) → slice_get order p ≡ Some r → r.number ≡ count_of r.node (take p order) + 1
  pub ended : length ends ≤ length order
  pub closing : (p : ℕ) (e : End) → slice_get ends p ≡ Some e → MayEnd (is_closed (take p ends)) (is_last_turn lease (take p ends)) e

-- The clear list grows at its end, by requests that are among the first `ended` of the order, each of them once. A node
-- may make another request if its last request is in the list.
pub data Clears (order : List Request) (ended : ℕ) : List Request → List Request → Type 0 where
  none : {clear : List Request} → Clears order ended clear clear
  more : {old clear : List Request} → (p : ℕ) (r : Request) → Clears order ended old clear → p < ended → slice_get order p ≡ Some r → Lacks clear r → Clears order ended old (clear ++ r ∷ [])
