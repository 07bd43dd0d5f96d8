-- The notes that explain the answers `misuse` and `refused`. A note names the node's state, and the calls or events
-- that a node in this state may make. The definitions in this file were made for this project; none is taken from the
-- literature.
use Rattle.std.specs.Prelude.{◌≡◌, ℕ, ◌+◌, ◌==◌, ◌&&◌, if◌then◌else◌, List, [], ◌∷◌, ◌++◌, length, map, filter, flat_map, codes, Result, Ok, Err}
use Rattle.std.specs.List.{range_with_len}
use Rattle.line_lanes.specs.Line.{zeros}
use Rattle.qolb_model.specs.declared.answer.PortState.{PortState}
use Rattle.qolb_model.specs.declared.answer.PortState.TheVariants as port
use Rattle.qolb_model.specs.OneOwner.{OwnerState, opened, state_of}
use Rattle.link_core.specs.declared.event.Event.{Event}
use Rattle.link_core.specs.declared.event.Event.TheVariants as event
use Rattle.link_core.specs.declared.point.Point.{Point}
use Rattle.link_core.specs.declared.told.Told.{Told}
use Rattle.link_core.specs.declared.told.NotEnabled.{NotEnabled}
use Rattle.link_core.specs.declared.told.NotEnabled.TheVariants as refusal
use Rattle.link_core.specs.declared.state.State.{State}
use Rattle.link_core.specs.State.{first, no_mask}
use Rattle.link_core.specs.State as state
use Rattle.link_core.specs.Steps.{Step, IsRefused, allows}
use Rattle.link_core.specs.Steps as steps
use Rattle.qolb_script.specs.declared.command.Command.{Command}
use Rattle.qolb_script.specs.declared.command.Command.TheVariants.{Enq, Poll, Show, Deq, Out, Shut, Write}
use Rattle.qolb_script.specs.declared.error.ScriptError.{ScriptError}
use Rattle.qolb_script.specs.Commands.{node_of, line_of}
use Rattle.qolb_script.specs.Reply.{is_allowed, said_of, after_command, config_of}
use Rattle.qolb_script.specs.Script.{Script, script_of}
use Rattle.qolb_script.specs.StepScript.{StepScript, steps_of}
use Rattle.qolb_replay.specs.StepRuns as runs
use Rattle.qolb_words.specs.Words.{is_misuse, point_words, field, step_verb, verb_of}

-- some words, one after another
abbrev pub listed : List (List ℕ) → List ℕ
listed [] = codes "nothing"
listed (word ∷ []) = word
listed (word ∷ next ∷ rest) = word ++ codes ", " ++ listed (next ∷ rest)

-- one command of each kind, in the order in which a note lists them
abbrev pub each_command : List Command
each_command = Enq 0 0 ∷ Poll 0 0 ∷ Write 0 0 no_mask (record { bytes = zeros }) ∷ Show 0 0 ∷ Deq 0 0 ∷ Out 0 0 ∷ Shut 0 0 ∷ []

-- the description of a state, and the commands that the state allows
abbrev pub stand_words : PortState → List ℕ
stand_words port.Linking = codes "asks"
stand_words port.Queued = codes "waits"
stand_words port.Holding = codes "holds"
stand_words state = codes "neither waits nor holds"

abbrev pub state_words : PortState → List ℕ
state_words state = stand_words state ++ codes ", which allows " ++ listed (map verb_of (filter (is_allowed state) each_command))

-- the note on command number `number` of a script, made by a node in this state
abbrev pub misuse_text : ℕ → Command → PortState → List ℕ
misuse_text number c state =
    field (codes "command ") number ++ codes ", " ++ verb_of c ++ field (codes " ") (node_of c) ++ field (codes " ") (line_of c)
    ++ field (codes ": node ") (node_of c) ++ codes " " ++ state_words state ++ codes "\n"

-- the note on a command, if the command is misuse of this line
abbrev pub note_on : ℕ → ℕ → OwnerState → Command → List ℕ
note_on line number s c =
    if (line_of c == line) && is_misuse (said_of s c) then misuse_text number c (state_of s (node_of c)) else []

-- the state of this line after a command, which may concern another line
abbrev pub on_line : ℕ → OwnerState → Command → OwnerState
on_line line s c = if line_of c == line then after_command s c else s

-- the notes on the commands in this list that are misuse of this line, where the first command is number `number` of
-- the script
abbrev pub misuses : ℕ → ℕ → OwnerState → List Command → List ℕ
misuses line number s [] = []
misuses line number s (c ∷ rest) = note_on line number s c ++ misuses line (number + 1) (on_line line s c) rest

abbrev pub line_notes : Script → ℕ → List ℕ
line_notes script line = misuses line 1 (opened (config_of script)) script.commands

-- The notes on a schedule, grouped by lines. Bytes that are not a schedule have no notes.
abbrev pub script_notes : Result Script ScriptError → List ℕ
script_notes (Ok script) = flat_map (line_notes script) (range_with_len 0 script.lines)
script_notes (Err error) = []

abbrev pub schedule_notes : List ℕ → List ℕ
schedule_notes input = script_notes (script_of input)

-- one event of each kind, in the order in which a note lists them
abbrev pub each_event : List Event
each_event =
    event.Reset 0 ∷ event.Prepend 0 ∷ event.Link 0 ∷ event.Load 0 ∷ event.Home 0 ∷ event.Done 0 ∷ event.Grant 0 ∷ event.Roll 0 ∷ event.Freed 0
    ∷ event.Write 0 no_mask (record { bytes = zeros }) ∷ event.Close 0 ∷ []

-- the events that a point allows
abbrev pub events_at : Point → List ℕ
events_at p = listed (map step_verb (filter (λ e. allows e p) each_event))

-- the note on event number `number` of a script, for a node at this point
abbrev pub refusal_text : ℕ → Event → Point → List ℕ
refusal_text number e p =
    field (codes "event ") number ++ codes ", " ++ step_verb e ++ field (codes " ") (steps.node_of e) ++ field (codes ": node ") (steps.node_of e)
    ++ codes " is at " ++ point_words p ++ codes ", which allows " ++ events_at p ++ codes "\n"

-- A script contains no event of a node that does not exist.
abbrev pub refusal_note : NotEnabled → ℕ → Event → Point → List ℕ
refusal_note refusal.Node number e p = []
refusal_note refusal.Point number e p = refusal_text number e p

-- the note on an event that was tried and had this result
abbrev pub note_if : Result Told NotEnabled → ℕ → Event → Point → List ℕ
note_if (Ok what) number e p = []
note_if (Err why) number e p = refusal_note why number e p

-- These events were tried one after another, from the core `from` to the last core. The text consists of the notes on
-- the events that were not enabled.
pub data Notes (from : State) : List Event → List ℕ → State → Type 0 where
  nothing : Notes from [] [] from
  told : {events : List Event} {text : List ℕ} {before after : State} (event : Event) (what : Told) → Notes from events text before → Step before event what after
      → Notes from (events ++ event ∷ []) text after
  refused : {events : List Event} {text : List ℕ} {before : State} (event : Event) (why : NotEnabled) → Notes from events text before → IsRefused before event why
      → Notes from (events ++ event ∷ []) (text ++ refusal_note why (length events + 1) event (state.point before (steps.node_of event))) before

-- One event was tried. An enabled event has no note. An event that was not enabled has a note and did not change
-- anything.
pub data IsTried (number : ℕ) (e : Event) (before after : State) (old new : List ℕ) : Type 0 where
  enabled : (what : Told) → Step before e what after → new ≡ old → IsTried number e before after old new
  not_enabled : (why : NotEnabled) → IsRefused before e why → after ≡ before → new ≡ old ++ refusal_note why number e (state.point before (steps.node_of e))
      → IsTried number e before after old new

-- the text consists of the notes on a run of the script
pub record AreNotesOf (script : StepScript) (text : List ℕ) : Type 0 where
  pub last : State
  pub runs : Notes (first (runs.line_of script)) script.events text last

-- The notes on a step script. Bytes that are not a step script have no notes.
abbrev pub AreNotesIf : Result StepScript ScriptError → List ℕ → Type 0
AreNotesIf (Ok script) text = AreNotesOf script text
AreNotesIf (Err error) text = text ≡ []

abbrev pub AreStepNotes : List ℕ → List ℕ → Type 0
AreStepNotes input text = AreNotesIf (steps_of input) text
