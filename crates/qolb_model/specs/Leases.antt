-- Leases: a program may open a line with a limit on the number of served turns, and the last of these turns closes the
-- line. The definitions in this file were made for this project; none is taken from the literature.
use Rattle.std.specs.Prelude.{ℕ, ◌+◌, ◌-◌, ◌≤◌, ◌==◌, Bool, false, ◌||◌, List, Option, Some, None, count_by}
use Rattle.qolb_model.specs.declared.end.End.{End}
use Rattle.qolb_model.specs.EndKinds.{is_served}

-- the number of served ends
abbrev pub served : List End → ℕ
served ends = count_by is_served ends

-- a lease allows at least one turn
abbrev pub IsLease : Option ℕ → Type 0
IsLease None = Unit {0}
IsLease (Some turns) = 1 ≤ turns

-- a served end behind these ends would be the last of the lease
abbrev pub is_last_turn : Option ℕ → List End → Bool
is_last_turn None ends = false
is_last_turn (Some turns) ends = served ends + 1 == turns

-- the number of turns that are left behind these ends
abbrev pub turns_left : Option ℕ → List End → Option ℕ
turns_left None ends = None
turns_left (Some turns) ends = Some (turns - served ends)

-- a served end behind these ends closes the line, because the holder shuts it or because the turn is the last of the
-- lease
abbrev pub closes : Option ℕ → List End → Bool → Bool
closes lease ends shut = shut || is_last_turn lease ends
