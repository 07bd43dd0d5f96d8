-- Lemmas about whether a bar of a timeline covers a given column.
use Rattle.std.proofs.Common.{◌≡◌, ℕ, ◌<◌, ◌≤◌, ◌&&◌, ◌||◌, nat_le, nat_lt, Bool, true, false, refl, ap, ◌∙◌, arith}
use Rattle.std.proofs.lemmas.Bool.Decides.{nat_tests}

-- a bar is over a column, or not
abbrev pub is_over : ℕ → ℕ → ℕ → Bool
is_over start end column = nat_le start column && nat_lt column end

pub over : (start end column : ℕ) → start ≤ column → column < end → is_over start end column ≡ true
over start end column from to =
    let begun : nat_le start column ≡ true = grind (arith, nat_tests) in
    let going : nat_lt column end ≡ true = grind (arith, nat_tests) in
    ap (λ b. b && nat_lt column end) begun ∙ going

pub not_yet : (start end column : ℕ) → column < start → is_over start end column ≡ false
not_yet start end column lt = let ahead : nat_le start column ≡ false = grind (arith, nat_tests) in ap (λ b. b && nat_lt column end) ahead

pub and_false : (b : Bool) → (b && false) ≡ false
and_false true = refl
and_false false = refl

pub no_more : (start end column : ℕ) → end ≤ column → is_over start end column ≡ false
no_more start end column le = let past : nat_lt column end ≡ false = grind (arith, nat_tests) in ap (λ b. nat_le start column && b) past ∙ and_false (nat_le start column)

-- neither of two
pub or_none : (a b : Bool) → (a || b) ≡ false → (a ≡ false) × (b ≡ false)
or_none false b h = (refl, h)
or_none true b h = absurd (let not_so : true ≡ false = h in cc not_so)
