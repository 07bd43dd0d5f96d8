-- How the core of the link line (the state machine of an MCS-like lock) executes a step script, and which reply
-- results. The definitions in this file were made for this project; none is taken from the literature.
use Rattle.std.specs.Prelude.{◌≡◌, ◌≤◌, ℕ, Bool, true, false, List, [], ◌∷◌, ◌++◌, length, map, flat_map, count_by, Option, Some, None, Ok}
use Rattle.std.specs.List.{range_with_len}
use Rattle.line_lanes.specs.Line.{zeros}
use Rattle.qolb_model.specs.declared.config.LineConfig.{LineConfig}
use Rattle.link_core.specs.declared.event.Event.{Event}
use Rattle.link_core.specs.declared.told.Told.{Told}
use Rattle.link_core.specs.declared.told.NotEnabled.{NotEnabled}
use Rattle.link_core.specs.declared.point.Point.{Point}
use Rattle.link_core.specs.declared.point.Point.TheVariants as point
use Rattle.link_core.specs.declared.state.State.{State}
use Rattle.link_core.specs.State.{first}
use Rattle.link_core.specs.State as state
use Rattle.link_core.specs.Steps.{Step, IsRefused}
use Rattle.link_core.specs.Progress.{rank}
use Rattle.qolb_script.specs.Said.{said_text}
use Rattle.qolb_script.specs.StepScript.{StepScript, steps_of}
use Rattle.qolb_script.specs.declared.reply_text.Said.{Said}
use Rattle.qolb_script.specs.StepReply.{step_said, step_summary, ranked_text}
use Rattle.qolb_replay.specs.declared.input.TheConstants.{MAX_BYTES}
use Rattle.qolb_replay.specs.declared.steps.Detail.{Detail}
use Rattle.qolb_replay.specs.declared.steps.Detail.TheVariants.{Words, Ranks}

-- the word that an event returned, or that the event was refused, and the rank of the core after the event
pub record Heard : Type 0 where
  pub told : Option Told
  pub rank : ℕ

abbrev pub said_by : Heard → Said
said_by heard = step_said heard.told

-- These events were tried one after another, from the core `from` to the last core. An event that was enabled returned
-- a word. An event that was not enabled was refused, returned no word, and did not change anything.
pub data Tells (from : State) : List Event → List Heard → State → Type 0 where
  nothing : Tells from [] [] from
  told : {events : List Event} {all : List Heard} {before after : State} (event : Event) (what : Told) → Tells from events all before → Step before event what after → Tells from (events ++ event ∷ []) (all ++ record { told = Some what; rank = rank after } ∷ []) after
  refused : {events : List Event} {all : List Heard} {before : State} (event : Event) (why : NotEnabled) → Tells from events all before → IsRefused before event why → Tells from (events ++ event ∷ []) (all ++ record { told = None; rank = rank before } ∷ []) before

-- a node at this point is in a call, waits or holds the line
abbrev pub is_busy : Point → Bool
is_busy point.Idle = false
is_busy point.Ready = false
is_busy point.Left = false
is_busy point.Rolled = false
is_busy point.Shut = false
is_busy p = true

-- the number of nodes from 1 to `nodes` that are in a call, wait or hold the line
abbrev pub nodes_busy : ℕ → State → ℕ
nodes_busy nodes c = count_by (λ n. is_busy (state.point c n)) (range_with_len 1 nodes)

-- the text for an event: a line with its word, followed by the rank if `detail` is `Ranks`
abbrev pub heard_text : Detail → Heard → List ℕ
heard_text Words heard = said_text (said_by heard)
heard_text Ranks heard = ranked_text heard.told heard.rank

-- the reply: the result of each event, followed by the summary of the line
abbrev pub step_text : Detail → List Heard → State → List ℕ
step_text detail all last = flat_map (heard_text detail) all ++ said_text (step_summary (map said_by all) (nodes_busy last.nodes last))

-- the configuration of the line of a step script: zeros, the nodes of the script, and its lease
abbrev pub line_of : StepScript → LineConfig
line_of script = record { nodes = script.nodes; opening = record { bytes = zeros }; lease = script.lease }

-- the text is the reply to a run of the script
pub record IsStepReply (detail : Detail) (script : StepScript) (text : List ℕ) : Type 0 where
  pub all : List Heard
  pub last : State
  pub runs : Tells (first (line_of script)) script.events all last
  pub text_is : text ≡ step_text detail all last

-- the bytes are a step script, and the text is the reply to it
pub record IsStepReplyTo (detail : Detail) (input text : List ℕ) : Type 0 where
  pub fits : length input ≤ MAX_BYTES
  pub script : StepScript
  pub read : steps_of input ≡ Ok script
  pub reply : IsStepReply detail script text
