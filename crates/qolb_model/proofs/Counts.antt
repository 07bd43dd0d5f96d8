-- Lemmas about the number of requests that each node of a line has in a list.
use Rattle.std.proofs.Common.{◌≡◌, ◌≢◌, ℕ, zero, suc, ◌+◌, ◌<◌, ◌≤◌, List, [], ◌∷◌, length, Bool, cond, eqb, sym, refl, ap, ◌∙◌, arith, zero-add, eq-eqb, ne_eqb, Some, slice_get}
use mathlib.Core.Logic.{dite}
use native.Mathlib.Decide.{ℕ_discrete}
use Rattle.qolb_model.specs.declared.request.Request.{Request}
use Rattle.qolb_model.specs.Requests.{count_of}
use Rattle.qolb_model.proofs.Requests.{count_of-append, count_of-push_same, count_of-push_other}

-- an order with one more request in front
pub count_of-cons_other : (n : ℕ) (r : Request) (xs : List Request) → r.node ≢ n → count_of n (r ∷ xs) ≡ count_of n xs
count_of-cons_other n r xs other = let a = count_of-append n (r ∷ []) xs in let b : count_of n (r ∷ []) ≡ count_of n [] = count_of-push_other n [] r other in
    let c : count_of n [] ≡ 0 = refl in omega arith

pub count_of-cons_same : (n : ℕ) (r : Request) (xs : List Request) → r.node ≡ n → count_of n (r ∷ xs) ≡ 1 + count_of n xs
count_of-cons_same n r xs same = let a = count_of-append n (r ∷ []) xs in let b : count_of n (r ∷ []) ≡ count_of n [] + 1 = count_of-push_same n [] r same in
    let c : count_of n [] ≡ 0 = refl in omega arith

-- the sum of the values for each number up to the n-th
pub sum_to : (ℕ → ℕ) → ℕ → ℕ
sum_to f zero = 0
sum_to f (suc n) = sum_to f n + f (suc n)

abbrev one_if : Bool → ℕ
one_if b = cond b 1 0

sum_to-add : (f g h : ℕ → ℕ) → ((k : ℕ) → h k ≡ f k + g k) → (n : ℕ) → sum_to h n ≡ sum_to f n + sum_to g n
unfolding sum_to
sum_to-add f g h e zero = refl
sum_to-add f g h e (suc n) = let a = sum_to-add f g h e n in let b = e (suc n) in omega arith

pub sum_to-zero : (f : ℕ → ℕ) (n : ℕ) → ((k : ℕ) → 0 < k → k ≤ n → f k ≡ 0) → sum_to f n ≡ 0
unfolding sum_to
sum_to-zero f zero e = refl
sum_to-zero f (suc n) e = let a = sum_to-zero f n (λ k l h. e k l (omega arith)) in let b = e (suc n) (omega arith) (omega arith) in omega arith

sum_to-unit : (m n : ℕ) → 0 < m → m ≤ n → sum_to (λ k. one_if (eqb m k)) n ≡ 1
unfolding sum_to
sum_to-unit m zero l h = absurd (omega arith)
sum_to-unit m (suc n) l h = dite (ℕ_discrete m (suc n))
    (λ e. let a = sum_to-zero (λ k. one_if (eqb m k)) n (λ k _ u. ap one_if (ne_eqb m k (λ q. omega arith))) in let b = ap one_if (eq-eqb m (suc n) e) in omega arith)
    (λ ne. let a = sum_to-unit m n l (omega arith) in let b = ap one_if (ne_eqb m (suc n) ne) in omega arith)

count_of-cons : (k : ℕ) (x : Request) (xs : List Request) → count_of k (x ∷ xs) ≡ one_if (eqb x.node k) + count_of k xs
count_of-cons k x xs = dite (ℕ_discrete x.node k)
    (λ e. count_of-cons_same k x xs e ∙ ap (λ b. one_if b + count_of k xs) (sym (eq-eqb x.node k e)))
    (λ ne. count_of-cons_other k x xs ne ∙ sym (zero-add (count_of k xs)) ∙ ap (λ b. one_if b + count_of k xs) (sym (ne_eqb x.node k ne)))

pub sum_counts : (n : ℕ) (xs : List Request) → ((p : ℕ) (r : Request) → slice_get xs p ≡ Some r → (0 < r.node) × (r.node ≤ n)) → sum_to (λ k. count_of k xs) n ≡ length xs
sum_counts n [] h = sum_to-zero (λ k. count_of k []) n (λ k _ _. refl)
sum_counts n (x ∷ xs) h =
    let a = sum_to-add (λ k. one_if (eqb x.node k)) (λ k. count_of k xs) (λ k. count_of k (x ∷ xs)) (λ k. count_of-cons k x xs) n in
    let b = sum_counts n xs (λ p r e. h (suc p) r e) in
    let c = sum_to-unit x.node n (h 0 x refl).0 (h 0 x refl).1 in omega arith

sum_to-le : (f : ℕ → ℕ) (n : ℕ) → ((k : ℕ) → 0 < k → k ≤ n → f k ≤ 1) → sum_to f n ≤ n
unfolding sum_to
sum_to-le f zero h = omega arith
sum_to-le f (suc n) h = let a = sum_to-le f n (λ k l u. h k l (omega arith)) in let b = h (suc n) (omega arith) (omega arith) in omega arith

-- if each node occurs at most once in a list, the list is no longer than the number of nodes
pub few_if_once : (n : ℕ) (xs : List Request) → ((p : ℕ) (r : Request) → slice_get xs p ≡ Some r → (0 < r.node) × (r.node ≤ n)) → ((k : ℕ) → 0 < k → k ≤ n → count_of k xs ≤ 1) → length xs ≤ n
few_if_once n xs h once = let a = sum_counts n xs h in let b = sum_to-le (λ k. count_of k xs) n once in omega arith

count_none : (k : ℕ) (xs : List Request) → ((i : ℕ) (r : Request) → slice_get xs i ≡ Some r → r.node ≢ k) → count_of k xs ≡ 0
count_none k [] h = refl
count_none k (x ∷ xs) h = count_of-cons_other k x xs (h 0 x refl) ∙ count_none k xs (λ i r e. h (suc i) r e)

-- a node that occurs at one place at most
pub count_once : (k : ℕ) (xs : List Request) → ((i j : ℕ) (r s : Request) → slice_get xs i ≡ Some r → slice_get xs j ≡ Some s → r.node ≡ k → s.node ≡ k → i ≡ j) → count_of k xs ≤ 1
count_once k [] h = let e : count_of k [] ≡ 0 = refl in omega arith
count_once k (x ∷ xs) h = dite (ℕ_discrete x.node k)
    (λ e. let a = count_none k xs (λ i r at mine. clash i (h 0 (suc i) x r refl at e mine)) in let b = count_of-cons_same k x xs e in omega arith)
    (λ ne. let a = count_once k xs (λ i j r s p q u w. back i j (h (suc i) (suc j) r s p q u w)) in let b = count_of-cons_other k x xs ne in omega arith)
  where
    clash : (i : ℕ) → 0 ≡ suc i → ⊥
    clash i e = omega arith

    back : (i j : ℕ) → suc i ≡ suc j → i ≡ j
    back i j e = omega arith
