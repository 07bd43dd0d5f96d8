-- Lemmas about histories in which each critical section begins with what the previous one left.
use Rattle.std.proofs.Common.{◌≡◌, ℕ, zero, suc, ◌+◌, ◌==◌, true, List, [], ◌∷◌, ◌++◌, refl, ap, sym, ◌∙◌, subst, arith, Some, slice_get}
use Rattle.std.proofs.lemmas.Bool.{and_parts, and_from}
use Rattle.std.proofs.lemmas.Bool.Decides.{nat_tests}
use Rattle.example_fair_lock.specs.declared.turn.Turn.{Turn}
use Rattle.example_fair_lock.specs.Turns.{is_chain, left_by, BeginsWithTheLast}

pub left_after : (v : ℕ) (log : List Turn) (t : Turn) → left_by v (log ++ t ∷ []) ≡ t.left
left_after v [] t = refl
left_after v (u ∷ log) t = left_after u.left log t

pub chain_after : (v : ℕ) (log : List Turn) (t : Turn) → is_chain v log ≡ true → t.found ≡ left_by v log → is_chain v (log ++ t ∷ []) ≡ true
chain_after v [] t is next = and_from (t.found == v) true (grind (arith, nat_tests)) refl
chain_after v (u ∷ log) t is next =
    let parts = and_parts (u.found == v) (is_chain u.left log) is in
    and_from (u.found == v) (is_chain u.left (log ++ t ∷ [])) parts.0 (chain_after u.left log t parts.1 next)

-- each turn of a chain but the first begins with what the one before left
pub chain_begins : (v : ℕ) (log : List Turn) → is_chain v log ≡ true → BeginsWithTheLast log
chain_begins v [] is n t u here after = absurd cc
chain_begins v (a ∷ []) is zero t u here after = absurd cc
chain_begins v (a ∷ b ∷ log) is zero t u here after =
    let tail = (and_parts (a.found == v) (is_chain a.left (b ∷ log)) is).1 in
    let head = (and_parts (b.found == a.left) (is_chain b.left log) tail).0 in
    let found : b.found ≡ a.left = grind (arith, nat_tests) in
    let is_t : a ≡ t = cc here in
    let is_u : b ≡ u = cc after in
    ap (λ (x : Turn). x.found) (sym is_u) ∙ (found ∙ ap (λ (x : Turn). x.left) is_t)
chain_begins v (a ∷ log) is (suc n) t u here after =
    let next : suc n + 1 ≡ suc (n + 1) = omega arith in
    chain_begins a.left log (and_parts (a.found == v) (is_chain a.left log) is).1 n t u here (subst (λ (k : ℕ). slice_get (a ∷ log) k ≡ Some u) next after)
