-- A property of the elements of a list that may depend on the place of an element in the list. The definitions in this
-- file were made for this project; none is taken from the literature.
use Rattle.std.specs.Prelude.{ℕ, ◌<◌, List, length, slice_index_or}

-- P holds of each place, counted from 0, and the element at that place
abbrev pub AllAt : {X : Type 0} → (ℕ → X → Type 0) → List X → Type 0
AllAt {X} P xs = (place : ℕ) (d : X) → place < length xs → P place (slice_index_or xs place d)
