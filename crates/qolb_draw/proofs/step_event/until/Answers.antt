use Rattle.std.proofs.Common.{◌≡◌, ℕ, ◌+◌, ◌<◌, ◌≤◌, ◌==◌, List, drop, length, get_or, cond, sym, ap, ◌∙◌, arith, eq-eqb, ne_eqb}
use Rattle.std.proofs.lemmas.List.{at_drop_all, at_drop_more}
use Rattle.link_core.specs.declared.event.Event.{Event}
use Rattle.link_core.specs.declared.event.Event.TheVariants.{Reset}
use Rattle.link_core.specs.Steps.{node_of}
use Rattle.qolb_draw.specs.StepShapes.{until}

-- the event at a place is an event of the node, or of another node
here : (n : ℕ) (rest : List Event) (i m : ℕ) → i < length rest → m ≡ node_of (get_or rest i (Reset 0)) → m ≡ n → until n rest ≡ i + until n (drop i rest) → until n rest ≡ i
here n rest i m lt is same was =
    let test : (node_of (get_or rest i (Reset 0)) == n) ≡ _ = eq-eqb _ _ (sym is ∙ same) in
    let none : until n (drop i rest) ≡ 0 = at_drop_more (until n) rest i (Reset 0) lt ∙ ap (λ b. cond b 0 (until n (drop (i + 1) rest) + 1)) test in
    omega arith

further : (n : ℕ) (rest : List Event) (i m : ℕ) → i < length rest → m ≡ node_of (get_or rest i (Reset 0)) → (m ≡ n → ⊥) → until n rest ≡ i + until n (drop i rest) → until n rest ≡ (i + 1) + until n (drop (i + 1) rest)
further n rest i m lt is other was =
    let test : (node_of (get_or rest i (Reset 0)) == n) ≡ _ = ne_eqb _ _ (λ e. other (is ∙ e)) in
    let one : until n (drop i rest) ≡ until n (drop (i + 1) rest) + 1 = at_drop_more (until n) rest i (Reset 0) lt ∙ ap (λ b. cond b 0 (until n (drop (i + 1) rest) + 1)) test in
    omega arith

over : (n : ℕ) (rest : List Event) (i : ℕ) → length rest ≤ i → until n rest ≡ i + until n (drop i rest) → until n rest ≡ i
over n rest i end was = let none : until n (drop i rest) ≡ 0 = at_drop_all (until n) rest i end in omega arith
