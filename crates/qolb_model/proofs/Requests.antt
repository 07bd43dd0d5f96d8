-- Lemmas about requests, and about the order in which they were made.
use Rattle.std.proofs.Common.{◌≡◌, ◌≢◌, ℕ, zero, suc, ◌+◌, ◌<◌, ◌≤◌, ◌==◌, ◌⊎◌, inl, inr, Bool, true, false, ◌||◌, ◌&&◌, cond, List, [], ◌∷◌, ◌++◌, length, take, Some, slice_get, refl, ap, sym, ◌∙◌, subst, arith}
use Rattle.std.proofs.Math.Bool.{or-true}
use Rattle.std.proofs.lemmas.List.Folds.{list_any-append}
use Rattle.std.proofs.lemmas.List.Sums.{sum_by_push, sum_by-append}
use Rattle.std.proofs.lemmas.List.{take_all}
use Rattle.std.proofs.lemmas.Bool.{eqb-true, eq-eqb, ne_eqb, false_from_ne_true, cases_order, cases_eq}
use Rattle.std.proofs.lemmas.Option.{slice_get_within}
use mathlib.Core.List.{IsPrefix}
use Rattle.qolb_model.specs.declared.request.Request.{Request}
use Rattle.qolb_model.specs.Requests.{is_same, has, Has, Lacks, count_of, last_of}
use Rattle.qolb_model.proofs.Lists.{never, same_test, element_at, push_cases, at_either, slice_get-take, take_with, place_of, passes_at}

-- a request is its node and its number
pub same_request : (a b c d : ℕ) → a ≡ b → c ≡ d → let x : Request = record { node = a; number = c } in let y : Request = record { node = b; number = d } in x ≡ y
same_request a b c d p q = rw (p, q) refl

-- parts of a test that passes
and_left_true : (a b : Bool) → (a && b) ≡ true → a ≡ true
and_left_true true b h = refl
and_left_true false b h = h

and_right_true : (a b : Bool) → (a && b) ≡ true → b ≡ true
and_right_true true b h = h
and_right_true false b h = absurd (let e : false ≡ true = h in cc e)

-- requests that the test finds equal are equal
pub is_same-true : (x y : Request) → is_same x y ≡ true → x ≡ y
is_same-true x y h =
    same_request x.node y.node x.number y.number (eqb-true x.node y.node (and_left_true _ _ h)) (eqb-true x.number y.number (and_right_true _ _ h))

pub is_same-self : (x : Request) → is_same x x ≡ true
is_same-self x = rw (eq-eqb x.node x.node refl) (eq-eqb x.number x.number refl)

-- a request belongs to a list if it is at a place of it
pub has_at : (xs : List Request) (p : ℕ) (r : Request) → slice_get xs p ≡ Some r → Has xs r
has_at xs p r e = passes_at (is_same r) xs p r e (is_same-self r)

-- conversely, a request of a list is at some place of it
pub place_of_request : (xs : List Request) (r : Request) → Has xs r → (p : ℕ) × (slice_get xs p ≡ Some r)
place_of_request xs r h = let found = place_of (is_same r) xs h in (found.0, found.2 ∙ ap Some (sym (is_same-true r found.1 found.3)))

-- a list lacks a request that cannot belong to it
pub lacks_from : (xs : List Request) (r : Request) → (Has xs r → ⊥) → Lacks xs r
lacks_from xs r h = false_from_ne_true (has xs r) h

-- requests of a list with one more
pub has_push : (xs : List Request) (x r : Request) → Has (xs ++ x ∷ []) r → Has xs r ⊎ (r ≡ x)
has_push xs x r h =
    let (p, e) = place_of_request (xs ++ x ∷ []) r h in
    elim (push_cases xs x p r e) [ inl old ↦ inl (has_at xs p r old.1) | inr new ↦ inr new.1 ]

pub has_left : (xs ys : List Request) (r : Request) → Has xs r → Has (xs ++ ys) r
has_left xs ys r h = list_any-append (is_same r) xs ys ∙ ap (λ b. b || has ys r) h

-- a request of two lists, one after the other
pub either_has : (xs ys : List Request) (r : Request) → Has (xs ++ ys) r → Has xs r ⊎ Has ys r
either_has xs ys r h =
    let (p, e) = place_of_request (xs ++ ys) r h in
    elim (at_either xs ys p r e) [ inl t ↦ inl (has_at xs p r t) | inr t ↦ inr (has_at ys t.0 r t.2) ]

pub has_prefix : (xs ys : List Request) (r : Request) → IsPrefix xs ys → Has xs r → Has ys r
has_prefix xs ys r begins h = subst (λ zs. Has zs r) begins.1 (has_left xs begins.0 r h)

pub has_last : (xs : List Request) (r : Request) → Has (xs ++ r ∷ []) r
has_last xs r = list_any-append (is_same r) xs (r ∷ []) ∙ (ap (λ b. has xs r || (b || false)) (is_same-self r) ∙ or-true (has xs r))

-- a request that is not pushed
pub has_push_else : (xs : List Request) (x r : Request) → r ≢ x → has (xs ++ x ∷ []) r ≡ has xs r
has_push_else xs x r ne = same_test (has (xs ++ x ∷ []) r) (has xs r) (λ h. elim (has_push xs x r h) [ inl t ↦ t | inr t ↦ absurd (ne t) ]) (λ h. has_left xs (x ∷ []) r h)

pub lacks_push : (xs : List Request) (x r : Request) → r ≢ x → Lacks xs r → Lacks (xs ++ x ∷ []) r
lacks_push xs x r ne h = has_push_else xs x r ne ∙ h

pub lacked_push : (xs : List Request) (x r : Request) → Lacks (xs ++ x ∷ []) r → Lacks xs r
lacked_push xs x r h = lacks_from xs r (λ was. never (has_left xs (x ∷ []) r was) h)

-- orders that grow by one request
pub count_of-push_same : (n : ℕ) (xs : List Request) (r : Request) → r.node ≡ n → count_of n (xs ++ r ∷ []) ≡ count_of n xs + 1
count_of-push_same n xs r e = sum_by_push (λ x. cond (x.node == n) 1 0) xs r ∙ ap (λ b. count_of n xs + cond b 1 0) (eq-eqb r.node n e)

pub count_of-push_other : (n : ℕ) (xs : List Request) (r : Request) → (r.node ≡ n → ⊥) → count_of n (xs ++ r ∷ []) ≡ count_of n xs
count_of-push_other n xs r e = sum_by_push (λ x. cond (x.node == n) 1 0) xs r ∙ (ap (λ b. count_of n xs + cond b 1 0) (ne_eqb r.node n e) ∙ omega arith)

pub count_of-push_le : (n : ℕ) (xs : List Request) (r : Request) → count_of n xs ≤ count_of n (xs ++ r ∷ [])
count_of-push_le n xs r = elim (cases_eq r.node n) [ inl e ↦ omega (arith, count_of-push_same n xs r e) | inr e ↦ omega (arith, count_of-push_other n xs r e) ]

-- the requests of a node in two orders, one after the other
pub count_of-append : (n : ℕ) (xs ys : List Request) → count_of n (xs ++ ys) ≡ count_of n xs + count_of n ys
count_of-append n xs ys = sum_by-append (λ x. cond (x.node == n) 1 0) xs ys

-- each node's requests are numbered 1, 2 and so on
abbrev pub IsNumbered : List Request → Type 0
IsNumbered order = (p : ℕ) (r : Request) → slice_get order p ≡ Some r → r.number ≡ count_of r.node (take p order) + 1

-- no request has a greater number than its node has requests
pub number_le_count : (order : List Request) → IsNumbered order → (p : ℕ) → p ≤ length order → (r : Request) → Has (take p order) r → r.number ≤ count_of r.node (take p order)
number_le_count order numbered zero le r h = absurd (let e : false ≡ true = h in cc e)
number_le_count order numbered (suc p) le r h =
    let at = element_at order p (omega (arith, le)) in
    let cut = take_with order p at.0 at.1 in
    subst (λ xs. r.number ≤ count_of r.node xs) (sym cut) (by (λ le. number_le_count order numbered p le r) at.0 at.1 (has_push (take p order) at.0 r (subst (λ xs. Has xs r) cut h)))
  where
    by : (p ≤ length order → Has (take p order) r → r.number ≤ count_of r.node (take p order)) → (x : Request) → slice_get order p ≡ Some x → Has (take p order) r ⊎ (r ≡ x) → r.number ≤ count_of r.node (take p order ++ x ∷ [])
    by before x e (inl old) = omega (arith, before (omega (arith, le)) old, count_of-push_le r.node (take p order) x)
    by before x e (inr is) = subst (λ y. y.number ≤ count_of y.node (take p order ++ x ∷ [])) (sym is) (omega (arith, numbered p x e, count_of-push_same x.node (take p order) x refl))

-- a node that has made requests has made its last one
pub has_last_of : (order : List Request) → IsNumbered order → (p : ℕ) → p ≤ length order → (n : ℕ) → 1 ≤ count_of n (take p order) → Has (take p order) (last_of n (take p order))
has_last_of order numbered zero le n one = absurd (omega (arith, one))
has_last_of order numbered (suc p) le n one =
    let at = element_at order p (omega (arith, le)) in
    let cut = take_with order p at.0 at.1 in
    subst (λ xs. Has xs (last_of n xs)) (sym cut) (by (λ le. has_last_of order numbered p le n) at.0 at.1 (subst (λ xs. 1 ≤ count_of n xs) cut one) (cases_eq at.0.node n))
  where
    by : (p ≤ length order → 1 ≤ count_of n (take p order) → Has (take p order) (last_of n (take p order))) → (x : Request) → slice_get order p ≡ Some x → 1 ≤ count_of n (take p order ++ x ∷ []) → (x.node ≡ n) ⊎ (x.node ≡ n → ⊥) → Has (take p order ++ x ∷ []) (last_of n (take p order ++ x ∷ []))
    by before x e one (inl same) =
        let is : last_of n (take p order ++ x ∷ []) ≡ x =
        same_request n x.node _ x.number (sym same) (count_of-push_same n (take p order) x same ∙ sym (numbered p x e ∙ ap (λ m. count_of m (take p order) + 1) same)) in
        subst (λ y. Has (take p order ++ x ∷ []) y) (sym is) (has_last (take p order) x)
    by before x e one (inr other) =
        let kept = count_of-push_other n (take p order) x other in
        has_left (take p order) (x ∷ []) _ (rw kept (before (omega (arith, le)) (omega (arith, one, kept))))

-- the requests before one lack it
pub lacks_before : (order : List Request) → IsNumbered order → (p : ℕ) (r : Request) → slice_get order p ≡ Some r → Lacks (take p order) r
lacks_before order numbered p r e =
    lacks_from (take p order) r (λ h. omega (arith, number_le_count order numbered p (omega (arith, slice_get_within order p r e)) r h, numbered p r e))

-- no request occurs twice
pub same_place : (order : List Request) → IsNumbered order → (p q : ℕ) (r : Request) → slice_get order p ≡ Some r → slice_get order q ≡ Some r → p ≡ q
same_place order numbered p q r at_p at_q = elim (cases_order p q) [
  | inl e ↦ e
  | inr (inl lt) ↦ absurd (apart p q lt at_p at_q)
  | inr (inr gt) ↦ absurd (apart q p gt at_q at_p)
]
  where
    apart : (i j : ℕ) → i < j → slice_get order i ≡ Some r → slice_get order j ≡ Some r → ⊥
    apart i j lt at_i at_j = never (has_at (take j order) i r (slice_get-take j order i lt ∙ at_i)) (lacks_before order numbered j r at_j)

-- the same for a whole order
pub number_le_count_all : (order : List Request) → IsNumbered order → (r : Request) → Has order r → r.number ≤ count_of r.node order
number_le_count_all order numbered r h =
    let whole = take_all (length order) order (omega arith) in
    subst (λ xs. r.number ≤ count_of r.node xs) whole (number_le_count order numbered (length order) (omega arith) r (subst (λ xs. Has xs r) (sym whole) h))

-- a node that has made requests has made its last one
pub has_last_of_all : (order : List Request) → IsNumbered order → (n : ℕ) → 1 ≤ count_of n order → Has order (last_of n order)
has_last_of_all order numbered n one =
    let whole = take_all (length order) order (omega arith) in
    subst (λ xs. Has xs (last_of n xs)) whole (has_last_of order numbered (length order) (omega arith) n (subst (λ xs. 1 ≤ count_of n xs) (sym whole) one))
