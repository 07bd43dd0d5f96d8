-- Lemmas about lists, whose elements are identified by their places.
use Rattle.std.proofs.Common.{◌≡◌, ℕ, zero, suc, ◌+◌, ◌<◌, ◌⊎◌, inl, inr, Bool, true, false, ◌||◌, List, [], ◌∷◌, ◌++◌, length, take, drop, Some, None, slice_get, refl, ap, sym, ◌∙◌, arith}
use Rattle.std.specs.List.{list_any}
use Rattle.std.proofs.lemmas.Bool.{or_right}
use Rattle.std.proofs.lemmas.Option.{slice_get_within}

-- a test does not both pass and fail
pub never : {b : Bool} → b ≡ true → b ≡ false → ⊥
never h k = cc

-- two tests are equal if each passes with the other
pub same_test : (a b : Bool) → (a ≡ true → b ≡ true) → (b ≡ true → a ≡ true) → a ≡ b
same_test true b f g = sym (f refl)
same_test false true f g = g refl
same_test false false f g = refl

-- what two equal options hold is equal
pub same_some : {X : Type 0} {a b : X} → Some a ≡ Some b → a ≡ b
same_some e = cc e

-- each place below the length has an element
pub element_at : {X : Type 0} (xs : List X) (p : ℕ) → p < length xs → (x : X) × (slice_get xs p ≡ Some x)
element_at [] p h = absurd (omega arith)
element_at (x ∷ xs) zero h = (x, refl)
element_at (x ∷ xs) (suc p) h = element_at xs p (omega (arith, h))

-- elements of two lists, one after the other
pub slice_get-append_left : {X : Type 0} (xs ys : List X) (p : ℕ) → p < length xs → slice_get (xs ++ ys) p ≡ slice_get xs p
slice_get-append_left [] ys p h = absurd (omega arith)
slice_get-append_left (x ∷ xs) ys zero h = refl
slice_get-append_left (x ∷ xs) ys (suc p) h = slice_get-append_left xs ys p (omega (arith, h))

pub slice_get-middle : {X : Type 0} (xs : List X) (x : X) (ys : List X) → slice_get (xs ++ x ∷ ys) (length xs) ≡ Some x
slice_get-middle [] x ys = refl
slice_get-middle (y ∷ xs) x ys = slice_get-middle xs x ys

pub slice_get-push : {X : Type 0} (xs : List X) (x : X) → slice_get (xs ++ x ∷ []) (length xs) ≡ Some x
slice_get-push xs x = slice_get-middle xs x []

-- an element of a list with one more element is an old one, or the new one
pub push_cases : {X : Type 0} (xs : List X) (x : X) (p : ℕ) (y : X) → slice_get (xs ++ x ∷ []) p ≡ Some y → ((p < length xs) × (slice_get xs p ≡ Some y)) ⊎ ((p ≡ length xs) × (y ≡ x))
push_cases [] x zero y e = inr (refl, sym (same_some e))
push_cases [] x (suc p) y e = absurd (let h : None ≡ Some y = e in cc h)
push_cases (z ∷ xs) x zero y e = inl (omega arith, e)
push_cases (z ∷ xs) x (suc p) y e = elim (push_cases xs x p y e) [
  | inl h ↦ inl (omega (arith, h.0), h.1)
  | inr h ↦ inr (omega (arith, h.0), h.1)
]

-- elements of the two parts of a list
pub slice_get-take : {X : Type 0} (n : ℕ) (xs : List X) (p : ℕ) → p < n → slice_get (take n xs) p ≡ slice_get xs p
slice_get-take zero xs p h = absurd (omega arith)
slice_get-take (suc n) [] p h = refl
slice_get-take (suc n) (x ∷ xs) zero h = refl
slice_get-take (suc n) (x ∷ xs) (suc p) h = slice_get-take n xs p (omega (arith, h))

pub slice_get-drop : {X : Type 0} (n : ℕ) (xs : List X) (p : ℕ) → slice_get (drop n xs) p ≡ slice_get xs (n + p)
slice_get-drop zero xs p = let e : p ≡ zero + p = omega arith in ap (slice_get xs) e
slice_get-drop (suc n) [] p = refl
slice_get-drop (suc n) (x ∷ xs) p = let e : suc (n + p) ≡ suc n + p = omega arith in slice_get-drop n xs p ∙ ap (slice_get (x ∷ xs)) e

-- one more element at the place where a list is split
pub take_with : {X : Type 0} (xs : List X) (p : ℕ) (x : X) → slice_get xs p ≡ Some x → take (suc p) xs ≡ take p xs ++ x ∷ []
take_with [] p x e = absurd (let h : None ≡ Some x = e in cc h)
take_with (y ∷ xs) zero x e = ap (λ z. z ∷ []) (same_some e)
take_with (y ∷ xs) (suc p) x e = ap (λ zs. y ∷ zs) (take_with xs p x e)

pub drop_with : {X : Type 0} (xs : List X) (p : ℕ) (x : X) → slice_get xs p ≡ Some x → drop p xs ≡ x ∷ drop (p + 1) xs
drop_with [] p x e = absurd (let h : None ≡ Some x = e in cc h)
drop_with (y ∷ xs) zero x e = ap (λ z. z ∷ xs) (same_some e)
drop_with (y ∷ xs) (suc p) x e = let next : suc (p + 1) ≡ suc p + 1 = omega arith in drop_with xs p x e ∙ ap (λ n. x ∷ drop n (y ∷ xs)) next

-- if a test passes for some element of a list, it passes at some place
pub place_of : {X : Type 0} (test : X → Bool) (xs : List X) → list_any test xs ≡ true → (p : ℕ) × (x : X) × (slice_get xs p ≡ Some x) × (test x ≡ true)
place_of test [] h = absurd (let e : false ≡ true = h in cc e)
place_of {X} test (x ∷ xs) h = by (place_of test xs) (test x) refl h
  where
    by : (list_any test xs ≡ true → (p : ℕ) × (y : X) × (slice_get xs p ≡ Some y) × (test y ≡ true)) → (b : Bool) → test x ≡ b → (b || list_any test xs) ≡ true
        → (p : ℕ) × (y : X) × (slice_get (x ∷ xs) p ≡ Some y) × (test y ≡ true)
    by later true e h = (0, x, refl, e)
    by later false e h = let more = later h in (suc more.0, more.1, more.2, more.3)

-- the converse: a test that passes at a place of the list passes for the list
pub passes_at : {X : Type 0} (test : X → Bool) (xs : List X) (p : ℕ) (x : X) → slice_get xs p ≡ Some x → test x ≡ true → list_any test xs ≡ true
passes_at test [] p x e t = absurd (let h : None ≡ Some x = e in cc h)
passes_at test (y ∷ xs) zero x e t = ap (λ b. b || list_any test xs) (ap test (same_some e) ∙ t)
passes_at test (y ∷ xs) (suc p) x e t = or_right (test y) (list_any test xs) (passes_at test xs p x e t)

-- an element is read at one place
pub at_same : {X : Type 0} (xs : List X) (p : ℕ) (x y : X) → slice_get xs p ≡ Some x → slice_get xs p ≡ Some y → x ≡ y
at_same xs p x y a b = same_some (sym a ∙ b)

-- an element is at the same place in a longer list
pub at_longer : {X : Type 0} (xs ys : List X) (p : ℕ) (x : X) → slice_get xs p ≡ Some x → slice_get (xs ++ ys) p ≡ Some x
at_longer xs ys p x e = slice_get-append_left xs ys p (slice_get_within xs p x e) ∙ e

-- an element of two lists, one after the other, is in the first or in the second
pub at_either : {X : Type 0} (xs ys : List X) (i : ℕ) (x : X) → slice_get (xs ++ ys) i ≡ Some x → (slice_get xs i ≡ Some x) ⊎ ((j : ℕ) × (i ≡ length xs + j) × (slice_get ys j ≡ Some x))
at_either [] ys i x e = inr (i, omega arith, e)
at_either (y ∷ xs) ys zero x e = inl e
at_either (y ∷ xs) ys (suc i) x e = elim (at_either xs ys i x e) [ inl t ↦ inl t | inr t ↦ inr (t.0, omega (arith, t.1), t.2) ]

pub at_drop : {X : Type 0} (k : ℕ) (xs : List X) (p : ℕ) (x : X) → slice_get (drop k xs) p ≡ Some x → slice_get xs (k + p) ≡ Some x
at_drop k xs p x e = sym (slice_get-drop k xs p) ∙ e

-- a list of one element has that element, and an empty list has none
pub at_one : {X : Type 0} (x y : X) (i : ℕ) → slice_get (x ∷ []) i ≡ Some y → x ≡ y
at_one x y zero e = same_some e
at_one x y (suc i) e = absurd (let h : None ≡ Some y = e in cc h)

pub at_none : {X : Type 0} (i : ℕ) (y : X) → slice_get [] i ≡ Some y → ⊥
at_none i y e = let h : None ≡ Some y = e in cc h
