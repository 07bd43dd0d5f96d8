-- The part of a script that has not been read yet, as a list of lines or of words. The definitions in this file were
-- made for this project; none is taken from the literature.
use Rattle.std.specs.Prelude.{ℕ, ◌==◌, List, [], Option, Some, None}
use Rattle.std.specs.Borrow.{Bor}
use Rattle.std.specs.List.{slice_split, enumerate_from}
use Rattle.qolb_script.specs.declared.text.Words.{Words}
use Rattle.qolb_script.specs.declared.text.NumberedLines.{NumberedLines}
use Rattle.qolb_script.specs.Text.{words_of, worded}

-- the lines of the remaining text, if any text remains
abbrev pub parts_left : Option (Bor (List ℕ)) → List (List ℕ)
parts_left None = []
parts_left (Some rest) = slice_split (λ b. b == 10) rest.now

abbrev pub lines_left : NumberedLines → List (ℕ × List ℕ)
lines_left it = worded (enumerate_from it.number (parts_left it.rest))

abbrev pub words_left : Words → List (List ℕ)
words_left it = words_of it.rest.now
