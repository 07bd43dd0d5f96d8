-- The report on a work script as text. Each line of the text has a word and a number. The definitions in this file were
-- made for this project; none is taken from the literature.
use Rattle.std.specs.Prelude.{ℕ, List, [], ◌∷◌, ◌++◌, codes, decimal}
use Rattle.qolb_script.specs.declared.report.Report.{Report}
use Rattle.qolb_script.specs.declared.report.Report.TheVariants.{Board, Bank}

-- a line that consists of a word and the digits of a number
abbrev pub figure : List ℕ → List ℕ → List ℕ
figure word digits = word ++ digits ++ 10 ∷ []

abbrev pub report_text : Report → List ℕ
report_text (Board stored full taken empty left) =
    figure (codes "stored ") (decimal stored) ++ figure (codes "full ") (decimal full) ++ figure (codes "taken ") (decimal taken) ++ figure (codes "empty ") (decimal empty) ++ figure (codes "left ") (decimal left)
report_text (Bank paid_in paid_out total) = figure (codes "in ") (decimal paid_in) ++ figure (codes "out ") (decimal paid_out) ++ figure (codes "total ") (decimal total)
