-- Proof that one release never ends two requests of the same node.
use Rattle.std.proofs.Common.{◌≡◌, ◌≢◌, ℕ, ◌+◌, ◌-◌, ◌<◌, ◌≤◌, inl, inr, List, length, Some, slice_get, ap, sym, ◌∙◌, arith}
use Rattle.std.proofs.lemmas.Bool.{cases_lt}
use mathlib.Core.List.{IsPrefix}
use Rattle.qolb_model.specs.declared.request.Request.{Request}
use Rattle.qolb_model.specs.Requests.{AreOfDifferentNodes, AreOfOthers}
use Rattle.qolb_model.proofs.Lists.{same_some, element_at}
use Rattle.qolb_model.proofs.Prefixes.{prefix_get}

-- a range of one place
pub once_alone : (order : List Request) (first last : ℕ) → last ≤ first + 1 → AreOfDifferentNodes order first last
once_alone order first last short = λ p q r s low lt high. absurd (omega (arith, short, low, lt, high))

-- one more place in front, whose request is of a node that made none of the others
pub once_behind : (order : List Request) (first last : ℕ) (mine : Request) → slice_get order first ≡ Some mine → ((p : ℕ) (r : Request) → first + 1 ≤ p → p < last → slice_get order p ≡ Some r → r.node ≢ mine.node)
    → AreOfDifferentNodes order (first + 1) last → AreOfDifferentNodes order first last
once_behind order first last mine at others rest = λ p q r s low lt high is_r is_s. elim (cases_lt first p) [
  | inl above ↦ rest p q r s (omega (arith, above)) lt high is_r is_s
  | inr first_is ↦ let same : p ≡ first = omega (arith, low, first_is) in
      λ e. others q s (omega (arith, same, lt)) high is_s (sym e ∙ ap (λ (z : Request). z.node) (same_some (sym is_r ∙ (ap (slice_get order) same ∙ at))))
]

-- the places that a walk has passed, one behind another
pub others_within : (node first last : ℕ) (order : List Request) (places : List ℕ) → ((i p : ℕ) → slice_get places i ≡ Some p → p ≡ first + i) → last ≡ first + length places → AreOfOthers node order places
    → (p : ℕ) (r : Request) → first ≤ p → p < last → slice_get order p ≡ Some r → r.node ≢ node
others_within node first last order places run long are = λ p r low high at.
    let one = element_at places (p - first) (omega (arith, low, high, long)) in
    are.others (p - first) p r (one.1 ∙ ap Some (run (p - first) one.0 one.1 ∙ omega (arith, low))) at

pub once_walked : (node first last : ℕ) (order : List Request) (places : List ℕ) → ((i p : ℕ) → slice_get places i ≡ Some p → p ≡ first + i) → last ≡ first + length places → AreOfOthers node order places → AreOfDifferentNodes order first last
once_walked node first last order places run long are = λ p q r s low lt high is_r is_s.
    let one = element_at places (p - first) (omega (arith, low, lt, high, long)) in
    let two = element_at places (q - first) (omega (arith, low, lt, high, long)) in
    are.apart (p - first) (q - first) p q r s (omega (arith, low, lt)) (one.1 ∙ ap Some (run (p - first) one.0 one.1 ∙ omega (arith, low))) (two.1 ∙ ap Some (run (q - first) two.0 two.1 ∙ omega (arith, low, lt))) is_r is_s

-- what is known of these places is also known of a longer order, if the requests at these places are known
pub others_longer : (node : ℕ) (old new : List Request) (places : List ℕ) → IsPrefix old new → ((i p : ℕ) → slice_get places i ≡ Some p → p < length old) → AreOfOthers node old places → AreOfOthers node new places
others_longer node old new places more known are = record {
  others = λ i p r here at. are.others i p r here (back i p r here at);
  apart = λ i j p q r s lt here there at and. are.apart i j p q r s lt here there (back i p r here at) (back j q s there and);
}
  where
    back : (i p : ℕ) (r : Request) → slice_get places i ≡ Some p → slice_get new p ≡ Some r → slice_get old p ≡ Some r
    back i p r here at = let one = element_at old p (known i p here) in one.1 ∙ ap Some (same_some (sym (prefix_get old new p one.0 more one.1) ∙ at))
