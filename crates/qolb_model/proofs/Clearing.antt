-- Lemmas about how clear lists grow. (A clear list contains the requests whose nodes may make another request.)
use Rattle.std.proofs.Common.{◌≡◌, ℕ, ◌<◌, ◌≤◌, inl, inr, false, true, List, [], ◌∷◌, ◌++◌, Some, slice_get, subst, sym, arith}
use mathlib.Core.List.{IsPrefix}
use Rattle.qolb_model.specs.declared.request.Request.{Request}
use Rattle.qolb_model.specs.Requests.{Has}
use Rattle.qolb_model.specs.Histories.{Clears, none, more}
use Rattle.qolb_model.proofs.Requests.{has_push}
use Rattle.qolb_model.proofs.Prefixes.{prefix_self, prefix_append, prefix_trans, prefix_get}

-- a clear list has its earlier version as a prefix
pub clears_begin : {order : List Request} {ended : ℕ} {old clear : List Request} → Clears order ended old clear → IsPrefix old clear
clears_begin {order} {ended} {old} {clear} none = prefix_self old
clears_begin (more {old} {clear} p r before lt at lacks) = prefix_trans old clear (clear ++ r ∷ []) (clears_begin before) (prefix_append clear (r ∷ []))

-- the list stays a clear list when the order grows and more requests end
pub clears_later : {order later : List Request} {ended now : ℕ} {old clear : List Request} → IsPrefix order later → ended ≤ now → Clears order ended old clear → Clears later now old clear
clears_later p le none = none
clears_later {order} {later} p le (more k r before lt at lacks) =
    more k r (clears_later p le before) (omega (arith, lt, le)) (prefix_get order later k r p at) lacks

-- a clear request has ended
pub clears_ended : {order : List Request} {ended : ℕ} {clear : List Request} → Clears order ended [] clear → (x : Request) → Has clear x → (p : ℕ) × (p < ended) × (slice_get order p ≡ Some x)
clears_ended none x h = absurd (let no : false ≡ true = h in cc no)
clears_ended {order} {ended} (more {old} {clear} p r before lt at lacks) x h = elim (has_push clear r x h) [
  | inl was ↦ clears_ended before x was
  | inr is ↦ (p, lt, subst (λ y. slice_get order p ≡ Some y) (sym is) at)
]
