-- Lemmas about the answer of a call when one of its steps returned `None` or an error.
use Rattle.std.proofs.Common.{◌≡◌, ℕ, List, [], ◌∷◌, Option, Some, None, slice_get, refl, sym, ◌∙◌}
use Rattle.std.specs.Prelude.{MatchOption, OnErr}
use Rattle.std.specs.Result.{result_ok}
use Rattle.std.specs.declared.result.Result.{Result}
use Rattle.std.specs.declared.result.Result.TheVariants.{Ok, Err}

-- a property of the value of an option that is none
pub of_none : {T A : Type 0} (B : T → Type 0) (o : Option T) → o ≡ None → A → MatchOption o A B
of_none B None e a = a
of_none B (Some x) e a = absurd (let f : Some x ≡ None = e in cc f)

pub none_or_some : {T : Type 0} (o : Option T) (x : T) → o ≡ None → o ≡ Some x → ⊥
none_or_some o x none some = let e : None ≡ Some x = sym none ∙ some in cc e

-- a property of the error of a result that is an error
pub failed_with : {T E P : Type 0} (r : Result T E) → result_ok r ≡ None → OnErr r P → P
failed_with (Err y) e h = h
failed_with (Ok y) e h = absurd (let f : Some y ≡ None = e in cc f)

pub none_first : (xs : List ℕ) → slice_get xs 0 ≡ None → xs ≡ []
none_first [] e = refl
none_first (x ∷ xs) e = absurd (let f : Some x ≡ None = e in cc f)
