-- Proof that no node is in a plain line's list of waiting nodes twice. Therefore the list is at most as long as the
-- number of nodes.
use Rattle.std.proofs.Common.{◌≡◌, ℕ, ◌+◌, ◌<◌, ◌≤◌, ◌==◌, eqb, inl, inr, Bool, true, false, ◌||◌, cond, if◌then◌else◌, List, [], ◌∷◌, ◌++◌, map, length, take, drop, Some, refl, ap, sym, ◌∙◌, arith, Option}
use Rattle.std.specs.List.{list_any, find, IsDistinct, AllByRecursion}
use Rattle.std.specs.Option.{is_some}
use Rattle.std.proofs.lemmas.List.{length-map, take-append-le, take_all}
use Rattle.std.proofs.lemmas.List.Folds.{list_any-append}
use Rattle.std.proofs.lemmas.Bool.{eqb-true, eqb-false, ne_eqb, or_cases, or_from, or_parts}
use Rattle.std.proofs.lemmas.Map.Keys.{IsDistinct-cons}
use Rattle.std.proofs.lemmas.Map.Steps.{length-le_from_distinct_below}
use Rattle.qolb_model.specs.declared.waiter.Waiter.{Waiter}
use Rattle.qolb_model.specs.Plain.{is_at, AreWaiting}
use Rattle.qolb_model.specs.Steps.{after_withdrawn, withdrawn_at}

-- two numbers differ, whichever is named first
flip : (a b : ℕ) → eqb a b ≡ false → eqb b a ≡ false
flip a b h = ne_eqb b a (λ e. eqb-false a b h (sym e))

-- a node that does not wait is none of those that do
apart_from : (n : ℕ) (ws : List Waiter) → list_any (is_at n) ws ≡ false → AllByRecursion (λ y. eqb n y ≡ false) (map (λ w. w.node) ws)
apart_from n [] h = tt
apart_from n (w ∷ ws) h = let both = or_parts (is_at n w) (list_any (is_at n) ws) h in (flip w.node n both.0, apart_from n ws both.1)

-- the waiting nodes are distinct, none is 0, and none is above the number of nodes
distinct_from : (nodes : ℕ) (ws : List Waiter) → AreWaiting nodes ws → IsDistinct eqb (map (λ w. w.node) ws)
unfolding IsDistinct
distinct_from nodes [] h = tt
distinct_from nodes (w ∷ ws) h = (apart_from w.node ws h.2, distinct_from nodes ws h.3)

zero_apart : (nodes : ℕ) (ws : List Waiter) → AreWaiting nodes ws → AllByRecursion (λ y. eqb 0 y ≡ false) (map (λ w. w.node) ws)
zero_apart nodes [] h = tt
zero_apart nodes (w ∷ ws) h = (ne_eqb 0 w.node (λ e. omega (arith, h.0)), zero_apart nodes ws h.3)

below_from : (nodes : ℕ) (ws : List Waiter) → AreWaiting nodes ws → (q : ℕ) → list_any (eqb q) (map (λ w. w.node) ws) ≡ true → q < nodes + 1
below_from nodes [] h q e = absurd (let no : false ≡ true = e in cc no)
below_from nodes (w ∷ ws) h q e = elim (or_cases (eqb q w.node) (list_any (eqb q) (map (λ x. x.node) ws)) e) [
  | inl is ↦ let same = eqb-true q w.node is in omega (arith, h.1)
  | inr more ↦ below_from nodes ws h.3 q more
]

-- there is room for a node that does not wait
pub room : (nodes n : ℕ) (ws : List Waiter) → AreWaiting nodes ws → list_any (is_at n) ws ≡ false → 1 ≤ n → n ≤ nodes → length ws < nodes
room nodes n ws h quiet low high =
    let two : IsDistinct eqb (0 ∷ n ∷ map (λ w. w.node) ws) =
    IsDistinct-cons eqb 0 _ (ne_eqb 0 n (λ e. omega arith), zero_apart nodes ws h) (IsDistinct-cons eqb n _ (apart_from n ws quiet) (distinct_from nodes ws h)) in
    let long = length-le_from_distinct_below (0 ∷ n ∷ map (λ w. w.node) ws) (nodes + 1) two (λ q e. elim (or_cases (eqb q 0) _ e) [
      | inl is ↦ omega (arith, eqb-true q 0 is)
      | inr more ↦ elim (or_cases (eqb q n) _ more) [
        | inl is ↦ omega (arith, eqb-true q n is)
        | inr later ↦ below_from nodes ws h q later
      ]
    ]) in
    omega (arith, long, length-map ws (λ w. w.node))

-- one more node may join the waiting nodes
pub waiting_push : (nodes n : ℕ) (b : Bool) (ws : List Waiter) → AreWaiting nodes ws → list_any (is_at n) ws ≡ false → 1 ≤ n → n ≤ nodes → AreWaiting nodes (ws ++ record { node = n; withdrawn = b } ∷ [])
waiting_push nodes n b [] h quiet low high = (low, high, refl, tt)
waiting_push nodes n b (w ∷ ws) h quiet low high =
    let both = or_parts (is_at n w) (list_any (is_at n) ws) quiet in (
      h.0,
      h.1,
      list_any-append (is_at w.node) ws (record { node = n; withdrawn = b } ∷ []) ∙ or_from _ _ h.2 (or_from (eqb n w.node) false (flip w.node n both.0) refl),
      waiting_push nodes n b ws h.3 both.1 low high,
    )

-- the withdrawn entries at the front may be passed
pub waiting_after : (nodes : ℕ) (ws : List Waiter) → AreWaiting nodes ws → AreWaiting nodes (after_withdrawn ws)
waiting_after nodes [] h = tt
waiting_after nodes (w ∷ ws) h = by w.withdrawn (waiting_after nodes ws h.3)
  where
    by : (b : Bool) → AreWaiting nodes (after_withdrawn ws) → AreWaiting nodes (if b then after_withdrawn ws else w ∷ ws)
    by true k = k
    by false k = h

-- the oldest entry may leave
pub waiting_rest : (nodes : ℕ) (ws : List Waiter) → AreWaiting nodes ws → AreWaiting nodes (drop 1 ws)
waiting_rest nodes [] h = tt
waiting_rest nodes (w ∷ ws) h = h.3

-- a mark changes no node
withdrawn_at-node : (n : ℕ) (w : Waiter) → (withdrawn_at n w).node ≡ w.node
withdrawn_at-node n w = by (is_at n w)
  where
    by : (b : Bool) → (if b then record w { withdrawn = true } else w).node ≡ w.node
    by true = refl
    by false = refl

same_nodes : (m n : ℕ) (ws : List Waiter) → list_any (is_at m) (map (withdrawn_at n) ws) ≡ list_any (is_at m) ws
same_nodes m n [] = refl
same_nodes m n (w ∷ ws) = ap (λ k. (k == m) || list_any (is_at m) (map (withdrawn_at n) ws)) (withdrawn_at-node n w) ∙ ap (λ b. is_at m w || b) (same_nodes m n ws)

-- a waiting node may therefore be marked
pub waiting_mark : (nodes n : ℕ) (ws : List Waiter) → AreWaiting nodes ws → AreWaiting nodes (map (withdrawn_at n) ws)
waiting_mark nodes n [] h = tt
waiting_mark nodes n (w ∷ ws) h =
    let same = withdrawn_at-node n w in
    (rw same h.0, rw same h.1, rw same (same_nodes w.node n ws ∙ h.2), waiting_mark nodes n ws h.3)

-- entries that are changed in place
pub written_back : (f : Waiter → Waiter) (ws : List Waiter) → take (length ws) (map f ws ++ drop (length (map f ws)) ws) ≡ map f ws
written_back f ws =
    let long = length-map ws f in
    take-append-le (length ws) (map f ws) (drop (length (map f ws)) ws) (omega (arith, long)) ∙ take_all (length ws) (map f ws) (omega (arith, long))

-- an entry is found if one waits
is_some-find : (test : Waiter → Bool) (ws : List Waiter) → is_some (find test ws) ≡ list_any test ws
is_some-find test [] = refl
is_some-find test (w ∷ ws) = by (test w) (is_some-find test ws)
  where
    by : (b : Bool) → is_some (find test ws) ≡ list_any test ws → is_some (cond b (Some w) (find test ws)) ≡ (b || list_any test ws)
    by true e = refl
    by false e = e

-- what a call said of the node's entry
pub entry_says : (node : ℕ) (ws : List Waiter) (o : Option Waiter) (b v : Bool) → o ≡ find (is_at node) ws → b ≡ is_some o → b ≡ v → list_any (is_at node) ws ≡ v
entry_says node ws o b v found told is = sym (is_some-find (is_at node) ws) ∙ (ap is_some (sym found) ∙ (sym told ∙ is))
