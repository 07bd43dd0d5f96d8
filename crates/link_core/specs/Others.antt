-- What an action of one node leaves unchanged for the other nodes. The definitions in this file were made for this
-- project; none is taken from the literature.
use Rattle.std.specs.Prelude.{◌≡◌, ◌≢◌, ℕ, ◌≤◌, true, false, length, Some, slice_get}
use mathlib.Core.List.{IsPrefix}
use Rattle.qolb_model.specs.declared.request.Request.{Request}
use Rattle.qolb_model.specs.declared.end.End.{End}
use Rattle.qolb_model.specs.EndKinds.{is_gone}
use Rattle.qolb_model.specs.Requests.{has, count_of}
use Rattle.qolb_model.specs.Queue.{Queue}
use Rattle.link_core.specs.Places.{IsLast}
use Rattle.link_core.specs.State.{State, seat, point, IsNode}
use Rattle.link_core.specs.Shown.{has_line}

-- an act of n, which leads from c and q to d and r, does not touch the other nodes
pub record Spared (c d : State) (q r : Queue) (n : ℕ) : Type 0 where
  pub nodes : d.nodes ≡ c.nodes
  -- the seats of the other nodes do not change, and neither does the line if one of them has it
  pub seats : (m : ℕ) → m ≢ n → seat d m ≡ seat c m
  pub line : (m : ℕ) → m ≢ n → IsNode c m → has_line (point c m) ≡ true → (d.bytes ≡ c.bytes) × (d.closed ≡ c.closed) × (d.mask ≡ c.mask) × (d.left ≡ c.left) × (r.ends ≡ q.ends)
  -- the numbers of the other nodes' requests do not change, nor the last request of each, nor which of them are marked
  pub asks : (m : ℕ) → m ≢ n → count_of m r.order ≡ count_of m q.order
  pub last : (m p : ℕ) → m ≢ n → IsLast q.order m p → IsLast r.order m p
  pub back : (m p : ℕ) → m ≢ n → IsLast r.order m p → IsLast q.order m p
  pub marks : (x : Request) → x.node ≢ n → has r.marked x ≡ has q.marked x
  -- a new end that is served or told belongs to n's own request
  pub its : (p : ℕ) (x : Request) (e : End) → length q.ends ≤ p → slice_get r.order p ≡ Some x → slice_get r.ends p ≡ Some e → is_gone e ≡ false → x.node ≡ n
  -- the old lists are prefixes of the new ones
  pub order : IsPrefix q.order r.order
  pub ends : IsPrefix q.ends r.ends
  pub clear : IsPrefix q.clear r.clear
