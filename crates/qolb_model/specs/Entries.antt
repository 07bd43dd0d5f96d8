-- Defines where a line's table keeps the entry of each node. Each node has one entry, at one place of one seat. (A seat
-- is a handle through which a caller uses the table.) The definitions in this file were made for this project; none is
-- taken from the literature.
use Rattle.std.specs.Prelude.{◌≡◌, ℕ, zero, suc, ◌<◌, ◌≤◌, List, [], ◌∷◌, slice_get, Some}
use mathlib.Core.Option.{some}
use lib.ListN.{get_elem?}

-- the entry e, at the i-th place of the seat j, belongs to its node
pub record Member {E : Type 0} (node : E → ℕ) (nodes : ℕ) (who : ℕ → E) (owner : ℕ → ℕ × ℕ) (j i : ℕ) (e : E) : Type 0 where
  pub low : 0 < node e
  pub high : node e ≤ nodes
  pub is : who (node e) ≡ e
  pub at : owner (node e) ≡ (j, i)

-- each entry of each seat belongs to its node, at the place that `owner` gives
abbrev pub AreMembers : {E : Type 0} → (E → ℕ) → ℕ → (ℕ → E) → (ℕ → ℕ × ℕ) → List (List E) → Type 0
AreMembers {E} node nodes who owner seats = (j i : ℕ) (es : List E) (e : E) → get_elem? seats j ≡ some es → slice_get es i ≡ Some e → Member node nodes who owner j i e

-- the entries of the nodes n + 1 to n + k
abbrev pub each_from : {E : Type 0} → (ℕ → E) → ℕ → ℕ → List E
each_from entry n zero = []
each_from entry n (suc k) = entry (suc n) ∷ each_from entry (suc n) k

-- the first entry of a seat that is split, and the entries behind it
abbrev pub front : {E : Type 0} → List E → List E
front [] = []
front (e ∷ es) = e ∷ []

abbrev pub behind : {E : Type 0} → List E → List E
behind [] = []
behind (e ∷ es) = es

-- these are the entries of all nodes, each at rest
abbrev pub AllAtRest : {E : Type 0} → (E → ℕ) → (E → Type 0) → ℕ → List E → Type 0
AllAtRest {E} node IsAtRest nodes entries = (n : ℕ) → 0 < n → n ≤ nodes → (i : ℕ) × (e : E) × (slice_get entries i ≡ Some e) × (node e ≡ n) × IsAtRest e
