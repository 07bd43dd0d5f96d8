-- Lemmas about the longer of two prefixes of one list, and about what ports know after they have exchanged their
-- knowledge.
use Rattle.std.proofs.Common.{◌≡◌, ◌<◌, ◌≤◌, inl, inr, cond, List, [], ◌∷◌, length, ap, sym, ◌∙◌, subst, arith}
use Rattle.std.proofs.lemmas.Bool.{lt-ltb, le-ltb, cases_order}
use mathlib.Core.List.{IsPrefix}
use Rattle.qolb_model.specs.declared.view.View.{View}
use Rattle.qolb_model.specs.OneHistory.{OneHistory}
use Rattle.qolb_model.specs.Meeting.{longer, Meets}
use Rattle.qolb_model.proofs.Prefixes.{prefix_self, prefix_length, prefix_shorter, prefix_same}
use Rattle.qolb_model.proofs.Agreeing.{among_first, among_second}

pub longer_second : {X : Type 0} (xs ys : List X) → length xs < length ys → longer xs ys ≡ ys
longer_second xs ys lt = ap (λ b. cond b ys xs) (lt-ltb (length xs) (length ys) lt)

pub longer_first : {X : Type 0} (xs ys : List X) → length ys ≤ length xs → longer xs ys ≡ xs
longer_first xs ys le = ap (λ b. cond b ys xs) (le-ltb (length xs) (length ys) le)

-- what holds of both lists holds of the longer one
pub longer_has : {X : Type 0} (P : List X → Type 0) (xs ys : List X) → P xs → P ys → P (longer xs ys)
longer_has P xs ys h k = elim (cases_order (length xs) (length ys)) [
  | inl e ↦ subst P (sym (longer_first xs ys (omega (arith, e)))) h
  | inr (inl lt) ↦ subst P (sym (longer_second xs ys lt)) k
  | inr (inr gt) ↦ subst P (sym (longer_first xs ys (omega (arith, gt)))) h
]

-- the longer of two prefixes is a prefix
pub longer_begins : {X : Type 0} (xs ys zs : List X) → IsPrefix xs zs → IsPrefix ys zs → IsPrefix (longer xs ys) zs
longer_begins xs ys zs p q = longer_has (λ ws. IsPrefix ws zs) xs ys p q

-- if the first list is a prefix of the second, it is a prefix of the longer
pub begins_longer : {X : Type 0} (xs ys zs : List X) → IsPrefix xs zs → IsPrefix ys zs → IsPrefix xs (longer xs ys)
begins_longer xs ys zs p q = elim (cases_order (length xs) (length ys)) [
  | inl e ↦ subst (λ ws. IsPrefix xs ws) (sym (longer_first xs ys (omega (arith, e)))) (prefix_self xs)
  | inr (inl lt) ↦ subst (λ ws. IsPrefix xs ws) (sym (longer_second xs ys lt)) (prefix_shorter xs ys zs p q (omega (arith, lt)))
  | inr (inr gt) ↦ subst (λ ws. IsPrefix xs ws) (sym (longer_first xs ys (omega (arith, gt)))) (prefix_self xs)
]

-- the order of the two lists does not matter
pub longer_swap : {X : Type 0} (xs ys zs : List X) → IsPrefix xs zs → IsPrefix ys zs → longer xs ys ≡ longer ys xs
longer_swap xs ys zs p q = elim (cases_order (length xs) (length ys)) [
  | inl e ↦ longer_first xs ys (omega (arith, e)) ∙ (prefix_same xs ys zs p q e ∙ sym (longer_first ys xs (omega (arith, e))))
  | inr (inl lt) ↦ longer_second xs ys lt ∙ sym (longer_first ys xs (omega (arith, lt)))
  | inr (inr gt) ↦ longer_first xs ys (omega (arith, gt)) ∙ sym (longer_second ys xs gt)
]

-- the second list is therefore a prefix of it too
pub begins_longer_too : {X : Type 0} (xs ys zs : List X) → IsPrefix xs zs → IsPrefix ys zs → IsPrefix ys (longer xs ys)
begins_longer_too xs ys zs p q = subst (λ ws. IsPrefix ys ws) (longer_swap ys xs zs q p) (begins_longer ys xs zs q p)

-- the whole list is the longer one
pub longer_whole : {X : Type 0} (xs ys zs : List X) → xs ≡ zs → IsPrefix ys zs → longer xs ys ≡ zs
longer_whole xs ys zs e q = longer_first xs ys (subst (λ ws. length ys ≤ length ws) (sym e) (prefix_length ys zs q)) ∙ e

-- ports that have met know the same lists
pub met_know_the_same : (v w v' w' : View) → OneHistory (v ∷ w ∷ []) → Meets v w v' → Meets w v w' → (v'.order ≡ w'.order) × (v'.ends ≡ w'.ends) × (v'.clear ≡ w'.clear)
met_know_the_same v w v' w' h a b =
    let one = h.known v (among_first v (w ∷ [])) in
    let two = h.known w (among_second v w []) in (
      a.order ∙ (longer_swap v.order w.order h.order one.order_begins two.order_begins ∙ sym b.order),
      a.ends ∙ (longer_swap v.ends w.ends h.ends one.ends_begin two.ends_begin ∙ sym b.ends),
      a.clear ∙ (longer_swap v.clear w.clear h.clear one.clear_begins two.clear_begins ∙ sym b.clear),
    )
