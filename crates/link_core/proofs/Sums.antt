-- Lemmas about sums over all nodes, for steps that change only a few terms of a sum.
use Rattle.std.proofs.Common.{◌≡◌, ◌≢◌, ℕ, zero, suc, ◌+◌, ◌*◌, ◌<◌, ◌≤◌, refl, sym, subst, inl, inr, arith}
use Rattle.std.proofs.lemmas.Bool.{cases_eq}
use Rattle.link_core.specs.Progress.{sum_over}

pub sum_le : (n : ℕ) (f g : ℕ → ℕ) → ((k : ℕ) → 0 < k → k ≤ n → f k ≤ g k) → sum_over n f ≤ sum_over n g
sum_le zero f g h = omega arith
sum_le (suc n) f g h =
    let a = sum_le n f g (λ k l b. h k l (omega arith)) in
    let b = h (suc n) (omega arith) (omega arith) in
    omega arith

-- the sums if the terms differ at one node
pub sum_one : (n i : ℕ) (f g : ℕ → ℕ) → 0 < i → i ≤ n → ((k : ℕ) → 0 < k → k ≤ n → k ≢ i → f k ≤ g k) → sum_over n f + g i ≤ sum_over n g + f i
sum_one zero i f g l b h = absurd (omega arith)
sum_one (suc n) i f g l b h = elim (cases_eq i (suc n)) [
  | inl e ↦
      let a = sum_le n f g (λ k l b. h k l (omega arith) (λ z. omega arith)) in
      subst (λ (x : ℕ). sum_over n f + f (suc n) + g x ≤ sum_over n g + g (suc n) + f x) (sym e) (omega arith)
  | inr ne ↦
      let a = sum_one n i f g l (omega arith) (λ k l b ne. h k l (omega arith) ne) in
      let b = h (suc n) (omega arith) (omega arith) (λ z. ne (sym z)) in
      omega arith
]

-- the sums if the terms differ at two nodes
pub sum_two : (n i j : ℕ) (f g : ℕ → ℕ) → 0 < i → i ≤ n → 0 < j → j ≤ n → i ≢ j → ((k : ℕ) → 0 < k → k ≤ n → k ≢ i → k ≢ j → f k ≤ g k) → sum_over n f + g i + g j ≤ sum_over n g + f i + f j
sum_two zero i j f g l b m d ne h = absurd (omega arith)
sum_two (suc n) i j f g l b m d ne h = elim (cases_eq i (suc n)) [
  | inl e ↦
      let a = sum_one n j f g m (omega arith) (λ k l b ne. h k l (omega arith) (λ z. omega arith) ne) in
      subst (λ (x : ℕ). sum_over n f + f (suc n) + g x + g j ≤ sum_over n g + g (suc n) + f x + f j) (sym e) (omega arith)
  | inr x ↦ elim (cases_eq j (suc n)) [
    | inl e ↦
        let a = sum_one n i f g l (omega arith) (λ k l b ne. h k l (omega arith) ne (λ z. omega arith)) in
        subst (λ (y : ℕ). sum_over n f + f (suc n) + g i + g y ≤ sum_over n g + g (suc n) + f i + f y) (sym e) (omega arith)
    | inr y ↦
        let a = sum_two n i j f g l (omega arith) m (omega arith) ne (λ k l b u v. h k l (omega arith) u v) in
        let b = h (suc n) (omega arith) (omega arith) (λ z. x (sym z)) (λ z. y (sym z)) in
        omega arith
  ]
]

-- one term is at most the sum, and so are two terms together
pub sum_has : (n i : ℕ) (f : ℕ → ℕ) → 0 < i → i ≤ n → f i ≤ sum_over n f
sum_has zero i f l b = absurd (omega arith)
sum_has (suc n) i f l b = elim (cases_eq i (suc n)) [
  | inl e ↦ subst (λ (x : ℕ). f x ≤ sum_over n f + f (suc n)) (sym e) (omega arith)
  | inr ne ↦ let a = sum_has n i f l (omega arith) in omega arith
]

pub sum_times : (n a : ℕ) (f : ℕ → ℕ) → sum_over n (λ k. a * f k) ≡ a * sum_over n f
sum_times zero a f = omega arith
sum_times (suc n) a f = let e = sum_times n a f in grind arith

-- the sum with one more node
pub sum_more : (n : ℕ) (f : ℕ → ℕ) → sum_over (n + 1) f ≡ sum_over n f + f (n + 1)
sum_more n f = subst (λ (m : ℕ). sum_over m f ≡ sum_over n f + f m) (let e : suc n ≡ n + 1 = omega arith in e) refl
