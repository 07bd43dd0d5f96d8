-- How the header of a script determines the kind of the script. The definitions in this file were made for this
-- project; none is taken from the literature.
use Rattle.std.specs.Prelude.{ℕ, if◌then◌else◌, List, Option, Some, None, Result, Ok, Err, is_ok}
use Rattle.qolb_script.specs.declared.job.WorkKind.{WorkKind}
use Rattle.qolb_script.specs.declared.job.WorkKind.TheVariants.{Board, Bank}
use Rattle.qolb_script.specs.declared.reason.Reason.{Reason}
use Rattle.qolb_script.specs.declared.reason.Reason.TheVariants.{Other}
use Rattle.qolb_script.specs.declared.reason.Refusal.{Refusal}
use Rattle.qolb_script.specs.declared.reason.ScriptKind.{ScriptKind}
use Rattle.qolb_script.specs.declared.reason.ScriptKind.TheVariants as script
use Rattle.qolb_script.specs.Refusals.{of_line}
use Rattle.qolb_script.specs.Commands.{header_of, read_line}
use Rattle.qolb_script.specs.Events.{step_header_of}
use Rattle.qolb_script.specs.Jobs.{work_header_of}

-- the kind of script that describes this kind of work
abbrev pub script_kind : WorkKind → ScriptKind
script_kind Board = script.Board
script_kind Bank = script.Bank

-- The kind of script that has this line as its header. No line is a header of two kinds.
abbrev pub kind_of_header : List ℕ → Option ScriptKind
kind_of_header line =
    if is_ok (read_line header_of line) then Some script.Schedule
    else if is_ok (read_line step_header_of line) then Some script.Steps
    else if is_ok (read_line (work_header_of Board) line) then Some script.Board
    else if is_ok (read_line (work_header_of Bank) line) then Some script.Bank
    else None

-- The reason why a line is not a header of the requested kind: the line is a header of another kind, or else the given
-- reason.
abbrev pub of_other : ScriptKind → Option ScriptKind → Reason → Reason
of_other asked None why = why
of_other asked (Some found) why = Other found asked

abbrev pub unless_other : ScriptKind → List ℕ → Reason → Reason
unless_other asked line why = of_other asked (kind_of_header line) why

abbrev pub or_other : {H : Type 0} → ScriptKind → List ℕ → Result H Reason → Result H Reason
or_other asked line (Ok header) = Ok header
or_other asked line (Err why) = Err (unless_other asked line why)

-- the header that a numbered line denotes
abbrev pub header_at : {H : Type 0} → ScriptKind → (List (List ℕ) → Result H Reason) → ℕ × List ℕ → Result H Refusal
header_at asked read line = of_line line.0 (or_other asked line.1 (read_line read line.1))
