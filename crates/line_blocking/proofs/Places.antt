-- Lemmas about a property that each element of a list has and that may depend on the element's place. They concern the
-- first element, the rest of the list, and a list to which one element is appended.
use Rattle.std.proofs.Common.{◌≡◌, ℕ, zero, suc, ◌+◌, List, [], ◌∷◌, ◌++◌, length, slice_index_or, subst, arith}
use Rattle.line_blocking.specs.Places.{AllAt}

-- `left` is the rest of a list whose first `given` elements were given away
module _ {X : Type 0} (P : ℕ → X → Type 0) (given : ℕ) (x : X) (xs left : List X) where
  pub first_at : left ≡ x ∷ xs → AllAt (λ k. P (given + k)) left → P given x
  first_at is all =
      let here : given + 0 ≡ given = omega arith in
      subst (λ n. P n x) here (subst (AllAt (λ k. P (given + k))) is all 0 x (omega arith))

  pub rest_at : (more : ℕ) → more ≡ given + 1 → left ≡ x ∷ xs → AllAt (λ k. P (given + k)) left → AllAt (λ k. P (more + k)) xs
  rest_at more next is all = λ k d lt.
      let there : given + suc k ≡ more + k = omega (arith, next) in
      subst (λ n. P n (slice_index_or xs k d)) there (subst (AllAt (λ k. P (given + k))) is all (suc k) d (omega (arith, lt)))

pub one_more : {X : Type 0} (P : ℕ → X → Type 0) (xs : List X) (x : X) → AllAt P xs → P (length xs) x → AllAt P (xs ++ x ∷ [])
one_more P [] x all own zero d lt = own
one_more P [] x all own (suc k) d lt = absurd (omega (arith, lt))
one_more P (y ∷ xs) x all own zero d lt = all 0 d (omega arith)
one_more P (y ∷ xs) x all own (suc k) d lt = one_more (λ n. P (suc n)) xs x (λ j e i. all (suc j) e (omega (arith, i))) own k d (omega (arith, lt))
