-- Sums over all turns of a line, and over the turns of one port. The definitions in this file were made for this
-- project; none is taken from the literature.
use Rattle.std.specs.Prelude.{◌≡◌, ℕ, ◌+◌, ◌==◌, if◌then◌else◌, List, [], ◌∷◌, take, slice_get, Bool, Some}
use Rattle.qolb_model.specs.declared.request.Request.{Request}
use Rattle.qolb_model.specs.declared.end.End.{End}
use Rattle.qolb_model.specs.declared.end.End.TheVariants.{Served, Gone, Told}
use Rattle.qolb_model.specs.declared.view.View.{View}
use Rattle.qolb_model.specs.declared.write.Write.{Write}
use Rattle.qolb_model.specs.Requests.{count_of}
use Rattle.qolb_model.specs.Ends.{written}
use Rattle.qolb_model.specs.Leases.{is_last_turn}

-- the sum, over all served turns, of what each turn changes in the bytes before it
abbrev pub sum_of_all : (List ℕ → List ℕ → ℕ) → List ℕ → List End → ℕ
sum_of_all does bytes [] = 0
sum_of_all does bytes (Served write shut ∷ ends) = does bytes (written bytes write) + sum_of_all does (written bytes write) ends
sum_of_all does bytes (Gone ∷ ends) = sum_of_all does bytes ends
sum_of_all does bytes (Told ∷ ends) = sum_of_all does bytes ends

-- the sum, over the node's served turns, of what each turn changes in the bytes before it
abbrev pub sum_of_turns : (List ℕ → List ℕ → ℕ) → ℕ → List ℕ → List Request → List End → ℕ
sum_of_turns does node bytes [] ends = 0
sum_of_turns does node bytes (r ∷ order) [] = 0
sum_of_turns does node bytes (r ∷ order) (Served write shut ∷ ends) = (if r.node == node then does bytes (written bytes write) else 0) + sum_of_turns does node (written bytes write) order ends
sum_of_turns does node bytes (r ∷ order) (Gone ∷ ends) = sum_of_turns does node bytes order ends
sum_of_turns does node bytes (r ∷ order) (Told ∷ ends) = sum_of_turns does node bytes order ends

-- the sum over the port's own turns, according to its view
abbrev pub sum_of_own : (List ℕ → List ℕ → ℕ) → View → ℕ
sum_of_own does v = sum_of_turns does v.node v.config.opening.bytes v.order v.ends

-- the port knows the place in the order of each of its own requests
abbrev pub KnowsOwnPlaces : View → Type 0
KnowsOwnPlaces v = count_of v.node v.order ≡ v.count

-- none of the port's turns shut the line: a turn of its own that closed the line was the last of a lease
abbrev pub HasNotShut : View → Type 0
HasNotShut v = (p : ℕ) (r : Request) (write : Write) (shut : Bool) → slice_get v.order p ≡ Some r → r.node ≡ v.node → slice_get v.ends p ≡ Some (Served write shut) → shut ≡ is_last_turn v.config.lease (take p v.ends)
