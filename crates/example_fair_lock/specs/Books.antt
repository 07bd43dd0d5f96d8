-- The invariant of a book, which records a history of critical sections, and what a caller learns from adding to it.
use Rattle.std.specs.Prelude.{ℕ, ◌≡◌, ◌==◌, true, List, [], ◌∷◌, ◌++◌, length, MatchBool}
use Rattle.logbook.specs.Pages.{Cell, Step, View, Book, Named}
use Rattle.example_fair_lock.specs.declared.turn.Turn.{Turn}
use Rattle.example_fair_lock.specs.Turns.{IsChain}

-- The first word is the length of the history, which is a chain. A book has two words, and this one leaves the second
-- at 0.
pub record IsKept (cells : List Cell) (log : List Turn) : Type 0 where
  pub words : cells ≡ (length log, true) ∷ (0, true) ∷ []
  pub chain : IsChain log

abbrev pub head_of : Book → Named
head_of b = record { tracked = true; key = 0; book = b }

-- the turn was added to all turns that had been seen; or the history was longer, and the caller has now seen it
abbrev pub Adds : Step Turn → View Turn ℕ → ℕ → View Turn ℕ → Type 0
Adds s v found w = MatchBool (found == s.old) ((w.0 ≡ v.0 ++ s.ask ∷ []) × IsChain w.0) ((length w.0 ≡ found) × IsChain w.0)
