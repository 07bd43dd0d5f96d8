-- The format of a board, which is a line of 64 bytes that contains at most `MAX_TASKS` tasks, with the oldest task
-- first. The definitions in this file were made for this project; none is taken from the literature.
use Rattle.std.specs.Prelude.{◌≡◌, ℕ, ◌+◌, ◌==◌, ◌&&◌, nat_le, Bool, if◌then◌else◌, List, take, drop, slice_index, slice_range, Option, Some, None}
use Rattle.std.specs.List.{list_all}
use Rattle.line_lanes.specs.Lane.{lanes_of}
use Rattle.line_board.specs.declared.board.TheConstants.{MAX_TASKS}

abbrev pub are_zeros : List ℕ → Bool
are_zeros numbers = list_all (λ n. n == 0) numbers

-- byte 0 counts the tasks
abbrev pub count_of : List ℕ → ℕ
count_of bytes = slice_index bytes 0

-- there are at most `MAX_TASKS` tasks, bytes 1 to 7 are zero, and each lane behind the tasks is zero
abbrev pub is_board : List ℕ → Bool
is_board bytes = nat_le (count_of bytes) MAX_TASKS && (are_zeros (slice_range bytes 1 8) && are_zeros (drop (count_of bytes + 1) (lanes_of bytes)))

-- the tasks of a board are the lanes from lane 1 on, as many as byte 0 counts; a line that is not a board has none
abbrev pub tasks_of : List ℕ → Option (List ℕ)
tasks_of bytes = if is_board bytes then Some (take (count_of bytes) (drop 1 (lanes_of bytes))) else None

-- these are the tasks of the line
abbrev pub Stand : List ℕ → List ℕ → Type 0
Stand bytes tasks = tasks_of bytes ≡ Some tasks

abbrev pub IsBoard : List ℕ → Type 0
IsBoard bytes = (tasks : List ℕ) × Stand bytes tasks
