-- Lemmas for proving that a property holds for every item of a list.
use Rattle.std.proofs.Common.{◌≡◌, List, [], ◌∷◌, ◌++◌, Bool, true, false, if◌then◌else◌, sym, subst, All}
use Rattle.std.proofs.lemmas.List.Elements.{All-nil, All-cons, All-push}

-- one more item, if there was room
pub all_pushed : {X : Type 0} (P : X → Type 0) (r : Bool) (xs ys : List X) (x : X) → ys ≡ (if r then xs ++ x ∷ [] else xs) → All P xs → P x → All P ys
all_pushed P true xs ys x e h own = subst (All P) (sym e) (All-push P xs x h own)
all_pushed P false xs ys x e h own = subst (All P) (sym e) h

-- two items
pub two_hold : {X : Type 0} (P : X → Type 0) (xs : List X) (a b : X) → xs ≡ a ∷ b ∷ [] → P a → P b → All P xs
two_hold P xs a b e first second = subst (All P) (sym e) (All-cons P a (b ∷ []) first (All-cons P b [] second (All-nil P)))
