-- Defines which request is at which place of an order. Places are counted from 0, and the oldest request is first.
use Rattle.std.specs.Prelude.{◌≡◌, ◌≢◌, ℕ, ◌<◌, List, length, slice_index_or}
use Rattle.qolb_model.specs.declared.request.Request.{Request}

-- a request of no node
abbrev pub nobody : Request
nobody = record { node = 0; number = 0 }

-- the request at a place of the order
abbrev pub request : List Request → ℕ → Request
request order p = slice_index_or order p nobody

-- the node that made it
abbrev pub requester_at : List Request → ℕ → ℕ
requester_at order p = (request order p).node

-- p is the place of n's last request
pub record IsLast (order : List Request) (n p : ℕ) : Type 0 where
  pub known : p < length order
  pub its : requester_at order p ≡ n
  pub newest : (q : ℕ) → p < q → q < length order → requester_at order q ≢ n
