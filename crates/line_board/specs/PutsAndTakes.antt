-- The tasks that were put on a board and taken from it, computed from how the requests of its line ended. The
-- definitions in this file were made for this project; none is taken from the literature.
use Rattle.std.specs.Prelude.{◌≡◌, ℕ, ◌-◌, List, [], ◌∷◌, ◌++◌, length, take, drop}
use Rattle.std.specs.Option.{unwrap_or}
use Rattle.qolb_model.specs.declared.end.End.{End}
use Rattle.qolb_model.specs.declared.end.End.TheVariants.{Served, Gone, Told}
use Rattle.qolb_model.specs.Ends.{written}
use Rattle.line_board.specs.Board.{tasks_of, Stand}

-- the tasks that a turn put, if it found the first tasks and left the second: those behind as many as it found
abbrev pub put_between : List ℕ → List ℕ → List ℕ
put_between found left = drop (length found) left

-- the tasks that such a turn took: of the first tasks, as many as are missing from the second
abbrev pub taken_between : List ℕ → List ℕ → List ℕ
taken_between found left = take (length found - length left) found

-- the tasks of the line, or none if it is not a board
abbrev pub standing : List ℕ → List ℕ
standing bytes = unwrap_or (tasks_of bytes) []

-- the tasks that the served turns put, in their order
abbrev pub puts_of : List ℕ → List End → List ℕ
puts_of bytes [] = []
puts_of bytes (Served write shut ∷ ends) = put_between (standing bytes) (standing (written bytes write)) ++ puts_of (written bytes write) ends
puts_of bytes (Gone ∷ ends) = puts_of bytes ends
puts_of bytes (Told ∷ ends) = puts_of bytes ends

-- the tasks that the served turns took, in their order
abbrev pub takes_of : List ℕ → List End → List ℕ
takes_of bytes [] = []
takes_of bytes (Served write shut ∷ ends) = taken_between (standing bytes) (standing (written bytes write)) ++ takes_of (written bytes write) ends
takes_of bytes (Gone ∷ ends) = takes_of bytes ends
takes_of bytes (Told ∷ ends) = takes_of bytes ends

-- the puts are the takes, followed by the tasks that are left: no task is lost, duplicated or overtaken
pub record IsQueue (opening : List ℕ) (ends : List End) (bytes : List ℕ) : Type 0 where
  pub tasks : List ℕ
  pub stand : Stand bytes tasks
  pub puts : puts_of opening ends ≡ takes_of opening ends ++ tasks
