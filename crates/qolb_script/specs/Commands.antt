-- The header and the commands of a schedule, which is a script of calls on locks. The definitions in this file were
-- made for this project; none is taken from the literature.
use Rattle.std.specs.Prelude.{ℕ, ◌+◌, ◌-◌, ◌/◌, ◌^◌, nat_le, if◌then◌else◌, List, [], ◌∷◌, length, codes, Option, Some, None, Result, Ok, Err}
use Rattle.std.specs.Str.{bytes_eq}
use Rattle.hex.specs.Hex.{decode_of}
use Rattle.hex.specs.declared.error.FromHexError.{FromHexError}
use Rattle.line_lanes.specs.Mask.{placed_mask}
use Rattle.line_lanes.specs.Line.{placed_line}
use Rattle.line_lanes.specs.declared.line.Mask.{Mask}
use Rattle.line_lanes.specs.declared.line.Line64.{Line64}
use Rattle.qolb_script.specs.declared.command.Command.{Command}
use Rattle.qolb_script.specs.declared.command.Command.TheVariants.{Enq, Poll, Show, Deq, Out, Shut, Write}
use Rattle.qolb_model.specs.declared.config.TheConstants.{MAX_NODES}
use Rattle.qolb_script.specs.declared.schedule.TheConstants.{MAX_LINES}
use Rattle.qolb_script.specs.declared.command_reader.Header.{Header}
use Rattle.qolb_script.specs.declared.reason.Reason.{Reason}
use Rattle.qolb_script.specs.declared.reason.Reason.TheVariants.{Begin, Byte, Word, Count, Hex, Fit}
use Rattle.qolb_script.specs.declared.reason.ScriptKind.TheVariants.{Schedule}
use Rattle.qolb_script.specs.declared.reason.Allowed.TheVariants as allowed
use Rattle.qolb_script.specs.declared.reason.Form.TheVariants as form
use Rattle.qolb_script.specs.Refusals.{and_then, unless_same}
use Rattle.qolb_script.specs.Text.{words_of, is_plain, number_within}

-- the node that makes a command, and the line that the command concerns
abbrev pub node_of : Command → ℕ
node_of (Enq node line) = node
node_of (Poll node line) = node
node_of (Show node line) = node
node_of (Deq node line) = node
node_of (Out node line) = node
node_of (Shut node line) = node
node_of (Write node line mask bytes) = node

abbrev pub line_of : Command → ℕ
line_of (Enq node line) = line
line_of (Poll node line) = line
line_of (Show node line) = line
line_of (Deq node line) = line
line_of (Out node line) = line
line_of (Shut node line) = line
line_of (Write node line mask bytes) = line

-- The command that a first word names. A node and a line follow this word.
abbrev pub named_command : List ℕ → Option (ℕ → ℕ → Command)
named_command word =
    if bytes_eq word (codes "enq") then Some Enq
    else if bytes_eq word (codes "poll") then Some Poll
    else if bytes_eq word (codes "show") then Some Show
    else if bytes_eq word (codes "deq") then Some Deq
    else if bytes_eq word (codes "out") then Some Out
    else if bytes_eq word (codes "shut") then Some Shut
    else None

-- The word at this place denotes a node from 1 to `nodes`. The third word denotes a line from 0 to `lines` - 1.
abbrev pub node_within : ℕ → ℕ → List ℕ → Result ℕ Reason
node_within place nodes word = number_within place 1 nodes word

abbrev pub line_within : ℕ → List ℕ → Result ℕ Reason
line_within lines word = number_within 3 0 (lines - 1) word

-- a call, whose node and line follow its first word
abbrev pub call_at : ℕ → ℕ → (ℕ → ℕ → Command) → List (List ℕ) → Result Command Reason
call_at nodes lines call (node ∷ line ∷ []) = and_then (node_within 2 nodes node) (λ n. and_then (line_within lines line) (λ l. Ok (call n l)))
call_at nodes lines call words = Err (Count form.Call)

abbrev pub call_of : ℕ → ℕ → Option (ℕ → ℕ → Command) → List (List ℕ) → Result Command Reason
call_of nodes lines None words = Err (Word 1 allowed.Commands)
call_of nodes lines (Some call) words = call_at nodes lines call words

-- The mask and the line of a write that begins at byte `off`, if its bytes fit. The bytes are the word at this place. A
-- word with too many digits does not fit, whether or not it is hex.
abbrev pub placed_at : ℕ → ℕ → List ℕ → Result (List ℕ) FromHexError → Result (Mask × Line64) Reason
placed_at place off hex (Err error) = Err (if nat_le (length hex / 2) 64 then Hex place else Fit place)
placed_at place off hex (Ok bytes) =
    if nat_le (off + length bytes) 64
    then Ok (record { 0 = placed_mask off (length bytes) }, record { bytes = placed_line off bytes })
    else Err (Fit place)

-- The mask and the line of a write, from its words for the place and for the bytes. The first of the two is the word at
-- this place of the line.
abbrev pub placed_of : ℕ → List ℕ → List ℕ → Result (Mask × Line64) Reason
placed_of place off hex = and_then (number_within place 0 63 off) (λ o. placed_at (place + 1) o hex (decode_of hex))

-- a write, from the words that follow its first word
abbrev pub write_of : ℕ → ℕ → List (List ℕ) → Result Command Reason
write_of nodes lines (node ∷ line ∷ off ∷ hex ∷ []) =
    and_then (node_within 2 nodes node) (λ n. and_then (line_within lines line) (λ l. and_then (placed_of 4 off hex) (λ p. Ok (Write n l p.0 p.1))))
write_of nodes lines words = Err (Count form.Write)

-- the command that these words denote
abbrev pub command_of : ℕ → ℕ → List (List ℕ) → Result Command Reason
command_of nodes lines [] = Err (Count form.Call)
command_of nodes lines (first ∷ rest) = if bytes_eq first (codes "write") then write_of nodes lines rest else call_of nodes lines (named_command first) rest

-- a lease of at least one acquisition, from the word at this place
abbrev pub lease_within : ℕ → List ℕ → Result ℕ Reason
lease_within place word = number_within place 1 (2 ^ 64 - 1) word

-- the header of a schedule without a lease, and with a lease
abbrev pub sizes_header : List ℕ → List ℕ → List ℕ → Result Header Reason
sizes_header nodes third lines =
    and_then (unless_same 3 allowed.Lines (codes "lines") third) (λ same. and_then (node_within 2 MAX_NODES nodes) (λ n. and_then (number_within 4 1 MAX_LINES lines) (λ l. Ok (record { nodes = n; lines = l; lease = None }))))

abbrev pub leased_header : List ℕ → List ℕ → List ℕ → List ℕ → List ℕ → Result Header Reason
leased_header nodes third lines fifth lease =
    and_then (unless_same 3 allowed.Lines (codes "lines") third) (λ same. and_then (unless_same 5 allowed.Lease (codes "lease") fifth) (λ also. and_then (node_within 2 MAX_NODES nodes) (λ n. and_then (number_within 4 1 MAX_LINES lines) (λ l. and_then (lease_within 6 lease) (λ turns. Ok (record { nodes = n; lines = l; lease = Some turns }))))))

-- the words of a header that follow the first word
abbrev pub rest_of_header : List (List ℕ) → Result Header Reason
rest_of_header (nodes ∷ third ∷ lines ∷ []) = sizes_header nodes third lines
rest_of_header (nodes ∷ third ∷ lines ∷ fifth ∷ lease ∷ []) = leased_header nodes third lines fifth lease
rest_of_header words = Err (Count (form.Header Schedule))

-- the header that these words denote: `nodes N lines L`, optionally followed by `lease C`
abbrev pub header_of : List (List ℕ) → Result Header Reason
header_of [] = Err (Count (form.Header Schedule))
header_of (first ∷ rest) = if bytes_eq first (codes "nodes") then rest_of_header rest else Err (Begin Schedule)

-- A line that contains a byte that is not allowed in a script is refused, whatever its words are.
abbrev pub read_line : {A : Type 0} → (List (List ℕ) → Result A Reason) → List ℕ → Result A Reason
read_line read line = if is_plain line then read (words_of line) else Err Byte
