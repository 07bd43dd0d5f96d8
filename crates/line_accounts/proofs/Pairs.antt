-- Lemmas about reading and writing two elements of a list that is split between the two elements.
use Rattle.std.specs.Global.{Global}
use Rattle.std.specs.Vec.{with_items}
use Rattle.std.proofs.lemmas.List.{with_items_is, length-set}
use Rattle.std.proofs.Common.{Vec, length, ◌≡◌, ◌≢◌, ◌+◌, ◌<◌, ℕ, zero, suc, List, [], ◌∷◌, ◌++◌, take, drop, slice_get, slice_set, refl, sym, ap, ◌∙◌, arith}
use Rattle.qolb_model.proofs.Lists.{slice_get-take, slice_get-drop}

-- reading both
pub at_front : {X : Type 0} (xs front : List X) (i j : ℕ) → front ≡ take j xs → i < j → slice_get xs i ≡ slice_get front i
at_front xs front i j is lt = sym (slice_get-take j xs i lt) ∙ ap (λ l. slice_get l i) (sym is)

pub at_back : {X : Type 0} (xs back : List X) (j : ℕ) → back ≡ drop j xs → slice_get xs j ≡ slice_get back 0
at_back xs back j is =
    let e : j + 0 ≡ j = omega arith in
    ap (slice_get xs) (sym e) ∙ (sym (slice_get-drop j xs 0) ∙ ap (λ l. slice_get l 0) (sym is))

-- writing both
set_back : {X : Type 0} (xs : List X) (j : ℕ) (y : X) → take j xs ++ slice_set (drop j xs) 0 y ≡ slice_set xs j y
set_back [] zero y = refl
set_back [] (suc j) y = refl
set_back (x ∷ xs) zero y = refl
set_back (x ∷ xs) (suc j) y = ap (λ l. x ∷ l) (set_back xs j y)

set_parts : {X : Type 0} (xs : List X) (i j : ℕ) (x y : X) → i < j → slice_set (take j xs) i x ++ slice_set (drop j xs) 0 y ≡ slice_set (slice_set xs i x) j y
set_parts [] i zero x y lt = absurd (omega arith)
set_parts [] i (suc j) x y lt = refl
set_parts (z ∷ xs) i zero x y lt = absurd (omega arith)
set_parts (z ∷ xs) zero (suc j) x y lt = ap (λ l. x ∷ l) (set_back xs j y)
set_parts (z ∷ xs) (suc i) (suc j) x y lt = ap (λ l. z ∷ l) (set_parts xs i j x y (omega (arith, lt)))

pub set_both : {X : Type 0} (xs front back : List X) (i j : ℕ) (x y : X) → front ≡ take j xs → back ≡ drop j xs → i < j → slice_set front i x ++ slice_set back 0 y ≡ slice_set (slice_set xs i x) j y
set_both xs front back i j x y front_is back_is lt = ap (λ l. slice_set l i x ++ slice_set back 0 y) front_is ∙ (ap (λ l. slice_set (take j xs) i x ++ slice_set l 0 y) back_is ∙ set_parts xs i j x y lt)

-- writing them in either order
pub set_swap : {X : Type 0} (xs : List X) (i j : ℕ) (x y : X) → i ≢ j → slice_set (slice_set xs i x) j y ≡ slice_set (slice_set xs j y) i x
set_swap [] i j x y ne = refl
set_swap (z ∷ xs) zero zero x y ne = absurd (ne refl)
set_swap (z ∷ xs) zero (suc j) x y ne = refl
set_swap (z ∷ xs) (suc i) zero x y ne = refl
set_swap (z ∷ xs) (suc i) (suc j) x y ne = ap (λ l. z ∷ l) (set_swap xs i j x y (λ e. ne (ap suc e)))

-- writing both in a vector
pub both_set : {X : Type 0} (v : Vec X Global) (xs : List X) (i j : ℕ) (x y : X) → xs ≡ v.items → (with_items v (slice_set (slice_set xs i x) j y)).items ≡ slice_set (slice_set v.items i x) j y
both_set v xs i j x y is =
    let made = ap (λ l. slice_set (slice_set l i x) j y) is in
    with_items_is v (slice_set (slice_set xs i x) j y) (ap length made ∙ (length-set (slice_set v.items i x) j y ∙ (length-set v.items i x ∙ sym v.ok.0))) ∙ made
