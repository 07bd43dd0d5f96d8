-- The header and the events of a step script. Each event is one atomic step of a node. The definitions in this file
-- were made for this project; none is taken from the literature.
use Rattle.std.specs.Prelude.{ℕ, if◌then◌else◌, List, [], ◌∷◌, codes, Option, Some, None, Result, Ok, Err}
use Rattle.std.specs.Str.{bytes_eq}
use Rattle.link_core.specs.declared.event.Event.{Event}
use Rattle.link_core.specs.declared.event.Event.TheVariants.{Reset, Prepend, Link, Load, Home, Done, Grant, Roll, Freed, Write, Close}
use Rattle.qolb_model.specs.declared.config.TheConstants.{MAX_NODES}
use Rattle.qolb_script.specs.declared.event_reader.StepHeader.{StepHeader}
use Rattle.qolb_script.specs.declared.reason.Reason.{Reason}
use Rattle.qolb_script.specs.declared.reason.Reason.TheVariants.{Begin, Word, Count}
use Rattle.qolb_script.specs.declared.reason.ScriptKind.TheVariants as script
use Rattle.qolb_script.specs.declared.reason.Allowed.TheVariants as allowed
use Rattle.qolb_script.specs.declared.reason.Form.TheVariants as form
use Rattle.qolb_script.specs.Refusals.{and_then, unless_same}
use Rattle.qolb_script.specs.Commands.{node_within, placed_of, lease_within}

-- the event that a first word names, if the event has only a node
abbrev pub named_event : List ℕ → Option (ℕ → Event)
named_event word =
    if bytes_eq word (codes "reset") then Some Reset
    else if bytes_eq word (codes "prepend") then Some Prepend
    else if bytes_eq word (codes "link") then Some Link
    else if bytes_eq word (codes "load") then Some Load
    else if bytes_eq word (codes "home") then Some Home
    else if bytes_eq word (codes "done") then Some Done
    else if bytes_eq word (codes "grant") then Some Grant
    else if bytes_eq word (codes "roll") then Some Roll
    else if bytes_eq word (codes "freed") then Some Freed
    else if bytes_eq word (codes "close") then Some Close
    else None

-- an event, whose node follows its first word
abbrev pub step_at : ℕ → (ℕ → Event) → List (List ℕ) → Result Event Reason
step_at nodes event (node ∷ []) = and_then (node_within 2 nodes node) (λ n. Ok (event n))
step_at nodes event words = Err (Count form.Event)

abbrev pub step_of : ℕ → Option (ℕ → Event) → List (List ℕ) → Result Event Reason
step_of nodes None words = Err (Word 1 allowed.Events)
step_of nodes (Some event) words = step_at nodes event words

-- a write of bytes from a place, from the words that follow its first word
abbrev pub step_write : ℕ → List (List ℕ) → Result Event Reason
step_write nodes (node ∷ off ∷ hex ∷ []) = and_then (node_within 2 nodes node) (λ n. and_then (placed_of 3 off hex) (λ p. Ok (Write n p.0 p.1)))
step_write nodes words = Err (Count form.StepWrite)

-- the event that these words denote
abbrev pub event_of : ℕ → List (List ℕ) → Result Event Reason
event_of nodes [] = Err (Count form.Event)
event_of nodes (first ∷ rest) = if bytes_eq first (codes "write") then step_write nodes rest else step_of nodes (named_event first) rest

-- the header of a step script with a lease
abbrev pub leased_steps : List ℕ → List ℕ → List ℕ → Result StepHeader Reason
leased_steps nodes third lease =
    and_then (unless_same 3 allowed.Lease (codes "lease") third) (λ same. and_then (node_within 2 MAX_NODES nodes) (λ n. and_then (lease_within 4 lease) (λ turns. Ok (record { nodes = n; lease = Some turns }))))

-- the words of a header that follow the first word
abbrev pub rest_of_step_header : List (List ℕ) → Result StepHeader Reason
rest_of_step_header (nodes ∷ []) = and_then (node_within 2 MAX_NODES nodes) (λ n. Ok (record { nodes = n; lease = None }))
rest_of_step_header (nodes ∷ third ∷ lease ∷ []) = leased_steps nodes third lease
rest_of_step_header words = Err (Count (form.Header script.Steps))

-- the header that these words denote: `nodes N`, optionally followed by `lease C`
abbrev pub step_header_of : List (List ℕ) → Result StepHeader Reason
step_header_of [] = Err (Count (form.Header script.Steps))
step_header_of (first ∷ rest) = if bytes_eq first (codes "nodes") then rest_of_step_header rest else Err (Begin script.Steps)
