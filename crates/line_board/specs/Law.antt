-- The data invariant of a board, which states how a turn may change the board. The definitions in this file were made
-- for this project; none is taken from the literature.
use Rattle.std.specs.Prelude.{◌≡◌, ◌⊎◌, ℕ, List, [], ◌∷◌, ◌++◌, refl}
use Rattle.std.proofs.Common.{inl}
use Rattle.line_board.specs.Board.{Stand, IsBoard}

-- the tasks stay, one task is appended, or the first is removed
abbrev pub IsStep : List ℕ → List ℕ → Type 0
IsStep before after = (after ≡ before) ⊎ (((task : ℕ) × (after ≡ before ++ task ∷ [])) ⊎ ((task : ℕ) × (before ≡ task ∷ after)))

pub record Changes (old new : List ℕ) : Type 0 where
  pub before : List ℕ
  pub after : List ℕ
  pub found : Stand old before
  pub left : Stand new after
  pub step : IsStep before after

-- a changed board is a board; a board may stay as it is
pub changed_board : (old new : List ℕ) → IsBoard old → Changes old new → IsBoard new
changed_board old new good change = (change.after, change.left)

pub same_board : (bytes : List ℕ) → IsBoard bytes → Changes bytes bytes
same_board bytes good = record { before = good.0; after = good.0; found = good.1; left = good.1; step = inl refl }
