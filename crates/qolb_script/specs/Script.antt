-- How input bytes are parsed as a schedule. The result of parsing is the schedule or the first error. The definitions
-- in this file were made for this project; none is taken from the literature.
use Rattle.std.specs.Prelude.{ℕ, ◌+◌, ◌<◌, ◌≤◌, nat_le, if◌then◌else◌, List, [], ◌∷◌, All, take, Option, Result, Ok, Err, IsOk}
use Rattle.qolb_script.specs.declared.command.Command.{Command}
use Rattle.qolb_script.specs.declared.error.ScriptError.{ScriptError}
use Rattle.qolb_script.specs.declared.command_reader.Header.{Header}
use Rattle.qolb_script.specs.declared.reason.Reason.{Reason}
use Rattle.qolb_script.specs.declared.reason.Reason.TheVariants.{Empty, TooMany}
use Rattle.qolb_script.specs.declared.reason.Refusal.{Refusal}
use Rattle.qolb_script.specs.declared.reason.Refusal.TheVariants.{Line}
use Rattle.qolb_script.specs.declared.reason.ScriptKind.TheVariants.{Schedule}
use Rattle.qolb_script.specs.declared.schedule.TheConstants.{MAX_COMMANDS}
use Rattle.qolb_script.specs.Text.{numbered_lines, worded}
use Rattle.qolb_script.specs.Refusals.{of_line, with_error}
use Rattle.qolb_script.specs.Headers.{header_at}
use Rattle.qolb_script.specs.Commands.{header_of, command_of, read_line, node_of, line_of}

-- a schedule: its numbers of nodes and lines, the lease of each line if there is one, and the commands in order
pub record Script : Type 0 where
  pub nodes : ℕ
  pub lines : ℕ
  pub lease : Option ℕ
  pub commands : List Command

-- every command belongs to one of the nodes and one of the lines
abbrev pub IsInRange : Script → Type 0
IsInRange script = All (λ c. (1 ≤ node_of c) × (node_of c ≤ script.nodes) × (line_of c < script.lines)) script.commands

-- an item followed by the items after it, or the first refusal
abbrev pub followed_by : {A : Type 0} → Result A Refusal → Result (List A) Refusal → Result (List A) Refusal
followed_by (Err why) rest = Err why
followed_by (Ok item) (Err why) = Err why
followed_by (Ok item) (Ok items) = Ok (item ∷ items)

-- The items that the words of these lines denote, where `before` items come before these lines. A line past the largest
-- number of items is refused unread.
abbrev pub items_of : {A : Type 0} → (List (List ℕ) → Result A Reason) → ℕ → List (ℕ × List ℕ) → Result (List A) Refusal
items_of item_of before [] = Ok []
items_of item_of before (line ∷ rest) =
    followed_by
    (if nat_le MAX_COMMANDS before then Err (Line line.0 TooMany) else of_line line.0 (read_line item_of line.1))
    (items_of item_of (before + 1) rest)

-- the script that `make` builds from the items, if no item is refused
abbrev pub made_of : {A S : Type 0} → (A → S) → Result A Refusal → Result S Refusal
made_of make (Err why) = Err why
made_of make (Ok items) = Ok (make items)

-- the script that consists of a header and of the items on the lines below the header
abbrev pub script_under : {H A S : Type 0} → (H → List (List ℕ) → Result A Reason) → (H → List A → S) → Result H Refusal → List (ℕ × List ℕ) → Result S Refusal
script_under item_of make (Err why) rest = Err why
script_under item_of make (Ok header) rest = made_of (make header) (items_of (item_of header) 0 rest)

abbrev pub item_under : Header → List (List ℕ) → Result Command Reason
item_under header words = command_of header.nodes header.lines words

abbrev pub schedule_by : Header → List Command → Script
schedule_by header commands = record { nodes = header.nodes; lines = header.lines; lease = header.lease; commands = commands }

-- Lines without words count in the numbering, but are skipped. The first other line is the header.
abbrev pub schedule_from : List (ℕ × List ℕ) → Result Script Refusal
schedule_from [] = Err (Line 1 (Empty Schedule))
schedule_from (line ∷ rest) = script_under item_under schedule_by (header_at Schedule header_of line) rest

-- the schedule that these bytes represent, or the reason why they do not represent one
abbrev pub parsed_schedule : List ℕ → Result Script Refusal
parsed_schedule text = schedule_from (worded (numbered_lines text))

abbrev pub script_of : List ℕ → Result Script ScriptError
script_of text = with_error (parsed_schedule text)

-- neither the header nor the first line below the header is refused
abbrev pub IsBegun : List ℕ → Type 0
IsBegun text = IsOk (schedule_from (take 2 (worded (numbered_lines text))))
