-- How input bytes are parsed as a step script. The result of parsing is the step script or the first error. The
-- definitions in this file were made for this project; none is taken from the literature.
use Rattle.std.specs.Prelude.{ℕ, ◌≤◌, List, [], ◌∷◌, All, take, Option, Result, Ok, Err, IsOk}
use Rattle.link_core.specs.declared.event.Event.{Event}
use Rattle.link_core.specs.Steps.{node_of}
use Rattle.qolb_script.specs.declared.event_reader.StepHeader.{StepHeader}
use Rattle.qolb_script.specs.declared.error.ScriptError.{ScriptError}
use Rattle.qolb_script.specs.declared.reason.Reason.{Reason}
use Rattle.qolb_script.specs.declared.reason.Reason.TheVariants.{Empty}
use Rattle.qolb_script.specs.declared.reason.Refusal.{Refusal}
use Rattle.qolb_script.specs.declared.reason.Refusal.TheVariants.{Line}
use Rattle.qolb_script.specs.declared.reason.ScriptKind.TheVariants.{Steps}
use Rattle.qolb_script.specs.Text.{numbered_lines, worded}
use Rattle.qolb_script.specs.Refusals.{with_error}
use Rattle.qolb_script.specs.Headers.{header_at}
use Rattle.qolb_script.specs.Events.{event_of, step_header_of}
use Rattle.qolb_script.specs.Script.{script_under}

-- a step script: its number of nodes, the lease of the line if it has one, and the events in order
pub record StepScript : Type 0 where
  pub nodes : ℕ
  pub lease : Option ℕ
  pub events : List Event

-- every event belongs to one of the nodes
abbrev pub IsOfItsNodes : StepScript → Type 0
IsOfItsNodes script = All (λ e. (1 ≤ node_of e) × (node_of e ≤ script.nodes)) script.events

abbrev pub item_under : StepHeader → List (List ℕ) → Result Event Reason
item_under header words = event_of header.nodes words

abbrev pub steps_by : StepHeader → List Event → StepScript
steps_by header events = record { nodes = header.nodes; lease = header.lease; events = events }

-- Lines without words count in the numbering, but are skipped. The first other line is the header.
abbrev pub steps_from : List (ℕ × List ℕ) → Result StepScript Refusal
steps_from [] = Err (Line 1 (Empty Steps))
steps_from (line ∷ rest) = script_under item_under steps_by (header_at Steps step_header_of line) rest

-- the step script that these bytes represent, or the reason why they do not represent one
abbrev pub parsed_steps : List ℕ → Result StepScript Refusal
parsed_steps text = steps_from (worded (numbered_lines text))

abbrev pub steps_of : List ℕ → Result StepScript ScriptError
steps_of text = with_error (parsed_steps text)

-- neither the header nor the first line below the header is refused
abbrev pub AreBegun : List ℕ → Type 0
AreBegun text = IsOk (steps_from (take 2 (worded (numbered_lines text))))
