-- The reasons why input is refused as a script, and the error that is returned for each reason. The definitions in this
-- file were made for this project; none is taken from the literature.
use Rattle.std.specs.Prelude.{ℕ, if◌then◌else◌, List, Result, Ok, Err}
use Rattle.std.specs.Str.{bytes_eq}
use Rattle.qolb_script.specs.declared.error.ScriptError.{ScriptError}
use Rattle.qolb_script.specs.declared.error.ScriptError.TheVariants as error
use Rattle.qolb_script.specs.declared.reason.Allowed.{Allowed}
use Rattle.qolb_script.specs.declared.reason.Reason.{Reason}
use Rattle.qolb_script.specs.declared.reason.Reason.TheVariants as reason
use Rattle.qolb_script.specs.declared.reason.Refusal.{Refusal}
use Rattle.qolb_script.specs.declared.reason.Refusal.TheVariants as refusal

-- The error of a line that is refused for this reason: a wrong number, too many lines, or for any other reason a bad
-- line.
abbrev pub line_error : ℕ → Reason → ScriptError
line_error n (reason.Number place low high) = error.Number n
line_error n reason.TooMany = error.TooMany n
line_error n why = error.BadLine n

abbrev pub error_of : Refusal → ScriptError
error_of refusal.Memory = error.Memory
error_of (refusal.Line n why) = line_error n why

-- the same result, with the error of the refusal instead of the refusal
abbrev pub with_error : {A : Type 0} → Result A Refusal → Result A ScriptError
with_error (Ok a) = Ok a
with_error (Err why) = Err (error_of why)

-- the result of reading line n, where a reason becomes a refusal of this line
abbrev pub of_line : {A : Type 0} → ℕ → Result A Reason → Result A Refusal
of_line n (Ok a) = Ok a
of_line n (Err why) = Err (refusal.Line n why)

-- passes the value to the next step if there is a value, and keeps the reason otherwise
abbrev pub and_then : {A B : Type 0} → Result A Reason → (A → Result B Reason) → Result B Reason
and_then (Ok a) next = next a
and_then (Err why) next = Err why

-- the word at this place must be `name`, the only word that is allowed there
abbrev pub unless_same : ℕ → Allowed → List ℕ → List ℕ → Result (Unit {0}) Reason
unless_same place allowed name word = if bytes_eq word name then Ok tt else Err (reason.Word place allowed)
