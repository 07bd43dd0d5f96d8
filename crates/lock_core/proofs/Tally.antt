-- Lemmas about how a step of one caller changes the number of sleepers of a cell.
use Rattle.std.proofs.Common.{◌≡◌, ◌≢◌, ℕ, zero, suc, ◌+◌, ◌%◌, ◌≤◌, List, [], ◌∷◌, ◌++◌, set, sym, ap, arith, eq-eqb, ne_eqb}
use mathlib.Core.Option.{some, some-injective, some-ne-none}
use prog.Atomic.{either}
use lib.ListN.{get_elem?}
use Rattle.lock_core.specs.declared.view.View.{View}
use Rattle.lock_core.specs.Invariant.{share, tally}

pub share_here : (c : ℕ) (v : View) → v.ticket % 4 ≡ c → share c v ≡ v.counted
share_here c v e = ap (λ b. either b v.counted 0) (eq-eqb (v.ticket % 4) c e)

pub share_else : (c : ℕ) (v : View) → v.ticket % 4 ≢ c → share c v ≡ 0
share_else c v ne = ap (λ b. either b v.counted 0) (ne_eqb (v.ticket % 4) c ne)

pub tally_set : (c : ℕ) (views : List View) (id : ℕ) (v w : View) → get_elem? views id ≡ some v → tally c (set views id w) + share c v ≡ tally c views + share c w
tally_set c [] id v w at = absurd (some-ne-none v (sym at))
tally_set c (x ∷ xs) zero v w at = let e : share c x ≡ share c v = ap (share c) (some-injective x v at) in omega arith
tally_set c (x ∷ xs) (suc i) v w at = let e = tally_set c xs i v w at in omega arith

pub tally_snoc : (c : ℕ) (views : List View) (w : View) → tally c (views ++ w ∷ []) ≡ tally c views + share c w
tally_snoc c [] w = omega arith
tally_snoc c (x ∷ xs) w = let e = tally_snoc c xs w in omega arith

pub tally_has : (c : ℕ) (views : List View) (id : ℕ) (v : View) → get_elem? views id ≡ some v → share c v ≤ tally c views
tally_has c [] id v at = absurd (some-ne-none v (sym at))
tally_has c (x ∷ xs) zero v at = let e : share c x ≡ share c v = ap (share c) (some-injective x v at) in omega arith
tally_has c (x ∷ xs) (suc i) v at = let e = tally_has c xs i v at in omega arith
