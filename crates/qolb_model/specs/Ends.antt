-- The ends of requests, and the line's bytes after each end. The end at place p of a list of ends belongs to the
-- request at place p of the order. (Masked writes and closing are this project's own.)
use Rattle.std.specs.Prelude.{◌≡◌, ℕ, Bool, true, false, ◌||◌, List, [], ◌∷◌}
use Rattle.line_lanes.specs.Line.{merged}
use Rattle.qolb_model.specs.declared.write.Write.{Write}
use Rattle.qolb_model.specs.declared.end.End.{End}
use Rattle.qolb_model.specs.declared.end.End.TheVariants.{Served, Gone, Told}

-- some end closed the line
abbrev pub is_closed : List End → Bool
is_closed [] = false
is_closed (Served write shut ∷ ends) = shut || is_closed ends
is_closed (Gone ∷ ends) = is_closed ends
is_closed (Told ∷ ends) = is_closed ends

-- The ends that a request may have, on a closed line or an open one, at the last turn of a lease or before it. A
-- request is served only on an open line, and the last turn closes that line. A request is told that the line is closed
-- only on a closed line.
abbrev pub MayEnd : Bool → Bool → End → Type 0
MayEnd closed last (Served write shut) = (closed ≡ false) × (last ≡ true → shut ≡ true)
MayEnd closed last Gone = Unit {0}
MayEnd closed last Told = closed ≡ true

-- the bytes after a masked write: a byte of the write if the mask has its place, and otherwise the old byte
abbrev pub written : List ℕ → Write → List ℕ
written bytes write = merged bytes write.bytes.bytes write.mask.0

-- the bytes after these ends: the writes of the served ends, applied in turn
abbrev pub bytes_after : List ℕ → List End → List ℕ
bytes_after bytes [] = bytes
bytes_after bytes (Served write shut ∷ ends) = bytes_after (written bytes write) ends
bytes_after bytes (Gone ∷ ends) = bytes_after bytes ends
bytes_after bytes (Told ∷ ends) = bytes_after bytes ends
