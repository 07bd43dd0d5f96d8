-- Histories of critical sections, which are called turns here: what each turn found, and what it left.
use Rattle.std.specs.Prelude.{◌≡◌, ℕ, ◌+◌, ◌%◌, ◌^◌, ◌<◌, ◌==◌, ◌&&◌, Bool, true, List, [], ◌∷◌, length, Some, slice_get}
use mathlib.Core.List.{IsPrefix}
use Rattle.example_fair_lock.specs.declared.turn.Turn.{Turn}

-- each turn found what the one before left, and the first one this value
abbrev pub is_chain : ℕ → List Turn → Bool
is_chain value [] = true
is_chain value (t ∷ ts) = (t.found == value) && is_chain t.left ts

-- what the last turn left, or this value before the first one
abbrev pub left_by : ℕ → List Turn → ℕ
left_by value [] = value
left_by value (t ∷ ts) = left_by t.left ts

abbrev pub IsChain : List Turn → Type 0
IsChain log = is_chain 0 log ≡ true

abbrev pub last_left : List Turn → ℕ
last_left log = left_by 0 log

-- each turn but the first begins with what the one before it left
abbrev pub BeginsWithTheLast : List Turn → Type 0
BeginsWithTheLast log = (n : ℕ) (t u : Turn) → slice_get log n ≡ Some t → slice_get log (n + 1) ≡ Some u → u.found ≡ t.left

-- the turn left the sum of what it found and this amount
abbrev pub HasAdded : ℕ → Turn → Type 0
HasAdded amount t = t.left ≡ (t.found + amount) % 2 ^ 64

-- the list xs is a prefix of ys
abbrev pub IsLonger : List Turn → List Turn → Type 0
IsLonger xs ys = IsPrefix xs ys × (length xs < length ys)
