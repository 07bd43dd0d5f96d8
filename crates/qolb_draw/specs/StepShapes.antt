-- The shapes of a step script's picture, and their places. A column represents an event, and columns are counted from
-- 0. Row 0 represents the home word, which contains 0 or the number of the node that joined the queue last. Row n
-- represents node n and the node's entry in the queue. The definitions in this file were made for this project; none is
-- taken from the literature.
use Rattle.std.specs.Prelude.{ℕ, ◌+◌, ◌*◌, ◌==◌, ◌&&◌, Bool, if◌then◌else◌, List, [], ◌∷◌, ◌++◌, length, map, flat_map, drop, Option, Some, None}
use Rattle.std.specs.Bool.{beq}
use Rattle.std.specs.List.{range_with_len, slice_index_or}
use Rattle.link_core.specs.declared.entry.Entry.{Entry}
use Rattle.link_core.specs.declared.event.Event.{Event}
use Rattle.link_core.specs.declared.place.Place.{Place}
use Rattle.link_core.specs.declared.point.Point.{Point}
use Rattle.link_core.specs.declared.state.State.{State}
use Rattle.link_core.specs.declared.told.Told.{Told}
use Rattle.link_core.specs.declared.told.NotEnabled.{NotEnabled}
use Rattle.link_core.specs.State.{empty, entry, point}
use Rattle.link_core.specs.Steps.{Step, IsRefused, node_of}
use Rattle.qolb_script.specs.StepScript.{StepScript}
use Rattle.qolb_draw.specs.declared.svg.TheConstants.{NAMED_EVERY}
use Rattle.qolb_draw.specs.Shapes.{name_count}

-- an event, what it told (`None` if it was not enabled), and the core before and after the event
pub record Seen : Type 0 where
  pub event : Event
  pub told : Option Told
  pub before : State
  pub after : State

-- These events were tried one after another, from the core `from` to the last core. An event that was not enabled tells
-- nothing and changes nothing.
pub data Watches (from : State) : List Event → List Seen → State → Type 0 where
  nothing : Watches from [] [] from
  made : {events : List Event} {all : List Seen} {before after : State} (event : Event) (what : Told) → Watches from events all before → Step before event what after → Watches from (events ++ event ∷ []) (all ++ record { event = event; told = Some what; before = before; after = after } ∷ []) after
  refused : {events : List Event} {all : List Seen} {before : State} (event : Event) (why : NotEnabled) → Watches from events all before → IsRefused before event why → Watches from (events ++ event ∷ []) (all ++ record { event = event; told = None; before = before; after = before } ∷ []) before

pub data StepShape : Type 0 where
  -- the thin line of a row, through `columns` columns
  Lane : (row columns : ℕ) → StepShape
  -- the name of a row
  Name : (row column : ℕ) → StepShape
  -- the number of an event
  Number : (column : ℕ) → StepShape
  -- a node is at this point, from one column to another
  At : (node start end : ℕ) → Point → StepShape
  -- the place of the line, for a column
  Lies : (column : ℕ) → Place → StepShape
  -- the new home word
  Home : (column word : ℕ) → StepShape
  -- the new entry of a node
  Word : (column node : ℕ) → Entry → StepShape
  -- an event, with what it told
  Act : (column : ℕ) → Event → Option Told → StepShape

-- a row, with its name repeated
abbrev pub lane_shapes : ℕ → ℕ → List StepShape
lane_shapes columns row = Lane row columns ∷ map (λ k. Name row (NAMED_EVERY * k)) (range_with_len 0 (name_count columns))

-- the number of these events before the node's next event, or of all of them if the node makes none
abbrev pub until : ℕ → List Event → ℕ
until n [] = 0
until n (event ∷ rest) = if node_of event == n then 0 else until n rest + 1

-- the home word, if it has changed
abbrev pub home_shapes : ℕ → ℕ → ℕ → List StepShape
home_shapes column was is = if is == was then [] else Home column is ∷ []

-- the entries of all nodes, in order
abbrev pub entries_of : State → List Entry
entries_of c = map (λ k. entry c (k + 1)) (range_with_len 0 c.nodes)

abbrev pub is_same_entry : Entry → Entry → Bool
is_same_entry a b = beq a.granted b.granted && (beq a.rolled b.rolled && (beq a.done b.done && (beq a.freed b.freed && (a.link == b.link))))

-- the entry, if it has changed
abbrev pub word_shapes : ℕ → ℕ → Entry → Entry → List StepShape
word_shapes column node was is = if is_same_entry is was then [] else Word column node is ∷ []

abbrev pub words_shapes : ℕ → List Entry → State → List StepShape
words_shapes column were c = flat_map (λ k. word_shapes column (k + 1) (slice_index_or were k empty) (entry c (k + 1))) (range_with_len 0 c.nodes)

-- the shapes of an event; `rest` are the events after it. The shapes show the node's point until the node's next event,
-- the place of the line, the words that have changed, and what the event told
abbrev pub event_shapes : ℕ → Seen → List Event → List StepShape
event_shapes column seen rest =
    Number column ∷ At (node_of seen.event) column (column + (until (node_of seen.event) rest + 1)) (point seen.after (node_of seen.event)) ∷ Lies column seen.after.place ∷ []
    ++ home_shapes column seen.before.home seen.after.home ++ words_shapes column (entries_of seen.before) seen.after ++ Act column seen.event seen.told ∷ []

-- the shapes of some events, from a column on
abbrev pub seen_shapes : ℕ → List Event → List Seen → List StepShape
seen_shapes column events [] = []
seen_shapes column events (seen ∷ all) = event_shapes column seen (drop 1 events) ++ seen_shapes (column + 1) (drop 1 events) all

-- the rows of the home word and of all nodes
abbrev pub rows_shapes : ℕ → ℕ → List StepShape
rows_shapes nodes columns = flat_map (lane_shapes columns) (range_with_len 0 (nodes + 1))

-- the shapes of a script, made from the recorded run of the script
abbrev pub step_timeline : StepScript → List Seen → List StepShape
step_timeline script all = rows_shapes script.nodes (length script.events) ++ seen_shapes 0 script.events all
