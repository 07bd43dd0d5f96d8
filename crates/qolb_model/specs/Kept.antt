-- Defines when all turns of a line preserve the line's data invariant. The definitions in this file were made for this
-- project; none is taken from the literature.
use Rattle.std.specs.Prelude.{ℕ, List, [], ◌∷◌}
use Rattle.qolb_model.specs.declared.write.Write.{Write}
use Rattle.qolb_model.specs.declared.end.End.{End}
use Rattle.qolb_model.specs.declared.end.End.TheVariants.{Served, Gone, Told}
use Rattle.qolb_model.specs.declared.view.View.{View}
use Rattle.qolb_model.specs.Ends.{written}
use Rattle.qolb_model.specs.Views.{bytes_of}

-- the data invariant allows the change that each served turn makes of the bytes before it
abbrev pub AreAllowed : (List ℕ → List ℕ → Type 0) → List ℕ → List End → Type 0
AreAllowed allows bytes [] = Unit {0}
AreAllowed allows bytes (Served write shut ∷ ends) = allows bytes (written bytes write) × AreAllowed allows (written bytes write) ends
AreAllowed allows bytes (Gone ∷ ends) = AreAllowed allows bytes ends
AreAllowed allows bytes (Told ∷ ends) = AreAllowed allows bytes ends

-- every turn that the view knows of kept the data invariant
abbrev pub IsKept : (List ℕ → List ℕ → Type 0) → View → Type 0
IsKept allows v = AreAllowed allows v.config.opening.bytes v.ends

-- the data invariant allows the change that this turn has made of the bytes that it found
abbrev pub MayRelease : (List ℕ → List ℕ → Type 0) → View → Write → Type 0
MayRelease allows v turn = allows (bytes_of v) turn.bytes.bytes
