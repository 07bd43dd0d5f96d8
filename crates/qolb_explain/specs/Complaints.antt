-- The complaint (a detailed error message) about a refused line of a script. The definitions in this file were made for
-- this project; none is taken from the literature.
use Rattle.std.specs.Prelude.{◌≡◌, ℕ, ◌==◌, if◌then◌else◌, List, [], ◌∷◌}
use Rattle.qolb_script.specs.declared.reason.Reason.{Reason}
use Rattle.qolb_script.specs.declared.reason.Refusal.{Refusal}
use Rattle.qolb_script.specs.declared.reason.Refusal.TheVariants.{Line}
use Rattle.qolb_script.specs.Text.{numbered_lines, worded}

-- the line with this number, if there is such a line
abbrev pub line_at : ℕ → List (ℕ × List ℕ) → List ℕ
line_at n [] = []
line_at n (line ∷ rest) = if line.0 == n then line.1 else line_at n rest

-- The complaint shows the line that the reader of the script refused, and gives the reason that the reader gave.
pub record IsAbout (script line : List ℕ) (reason : Reason) (why : Refusal) : Type 0 where
  pub number : ℕ
  pub of_reader : why ≡ Line number reason
  pub line_is : line ≡ line_at number (worded (numbered_lines script))
