-- The message for each error that can occur while a script is read. The definitions in this file were made for this
-- project; none is taken from the literature.
use Rattle.std.specs.Prelude.{ℕ, List, ◌++◌, codes, decimal}
use Rattle.qolb_script.specs.declared.error.ScriptError.{ScriptError}
use Rattle.qolb_script.specs.declared.error.ScriptError.TheVariants.{Memory, BadLine, Number, TooMany}

-- the text of the error, which names the line unless memory ran out
abbrev pub error_text : ScriptError → List ℕ
error_text Memory = codes "out of memory"
error_text (BadLine line) = codes "bad line " ++ decimal line
error_text (Number line) = codes "bad line " ++ decimal line
error_text (TooMany line) = codes "bad line " ++ decimal line
