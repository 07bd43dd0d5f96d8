-- How numbers are written above narrow columns: the digits of each number stand below each other. The definitions in
-- this file were made for this project; none is taken from the literature.
use Rattle.std.specs.Prelude.{ℕ, ◌+◌, ◌-◌, ◌/◌, ◌%◌, nat_lt, nat_le, if◌then◌else◌, List, [], ◌∷◌, ◌++◌, length, map, filter, flat_map}
use Rattle.std.specs.List.{slice_index_or}

-- the digit of a number at the place with this value, or a space if the number has no digit there
abbrev pub digit_at : ℕ → ℕ → ℕ
digit_at value n = if nat_lt n value then 32 else 48 + n / value % 10

-- a row of digits: a margin, and then the digit of each number at the place with this value
abbrev pub head_text : List ℕ → List ℕ → ℕ → List ℕ
head_text margin numbers value = margin ++ map (digit_at value) numbers ++ 10 ∷ []

-- the place values of a number's digits; a number has at most six digits
abbrev pub places_of : ℕ → List ℕ
places_of n = filter (λ value. nat_le value n) (100000 ∷ 10000 ∷ 1000 ∷ 100 ∷ 10 ∷ 1 ∷ [])

-- the rows of digits of some numbers; the last number determines how many rows there are
abbrev pub heads_text : List ℕ → List ℕ → List ℕ
heads_text margin numbers = flat_map (head_text margin numbers) (places_of (slice_index_or numbers (length numbers - 1) 0))
