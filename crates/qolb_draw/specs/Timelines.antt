-- Which shapes the timeline of a line contains, and where they are placed. The definitions in this file were made for
-- this project; none is taken from the literature.
use Rattle.std.specs.Prelude.{ℕ, ◌+◌, ◌*◌, ◌==◌, nat_lt, max, false, if◌then◌else◌, List, [], ◌∷◌, ◌++◌, length, map, fold, flat_map, sum_by, count_by, codes, Option, Some, None}
use Rattle.std.specs.List.{range_with_len, slice_index_or}
use Rattle.qolb_script.specs.declared.command.Command.{Command}
use Rattle.qolb_script.specs.declared.command.Command.TheVariants.{Enq, Write}
use Rattle.qolb_script.specs.declared.reply_text.Said.{Said}
use Rattle.qolb_script.specs.declared.reply_text.Said.TheVariants as said
use Rattle.qolb_script.specs.Script.{Script}
use Rattle.qolb_draw.specs.declared.bar.Stand.{Stand}
use Rattle.qolb_draw.specs.declared.bar.Stand.TheVariants as stand
use Rattle.qolb_draw.specs.declared.event.Event.{Event}
use Rattle.qolb_draw.specs.LineRuns.{Step, event_of, mark_at, steps_on, callers}
use Rattle.qolb_draw.specs.declared.svg.TheConstants.{LEGEND, NAMED_EVERY, TAIL}
use Rattle.qolb_draw.specs.Svg.{texts, height_of, width_of, line_begin, svg_head}
use Rattle.qolb_draw.specs.Shapes.{Shape, Lane, Bar, Name, Number, Arrow, Bytes, Call, stand_of, is_same, places_in, name_count}

-- the row of a node: the number of shown nodes before it
abbrev pub row_of : List ℕ → ℕ → ℕ
row_of shown n = count_by (λ m. nat_lt m n) shown

-- a node that is away has no bar
abbrev pub bar_of : ℕ → ℕ → ℕ → Stand → ℕ → List Shape
bar_of row start end stand.Away node = []
bar_of row start end s node = Bar row start end s node ∷ []

-- the bars of a row from `column` on: one for each run of equal states; the node has been in state `s` since column
-- `start`
abbrev pub bars_from : ℕ → ℕ → Stand → ℕ → ℕ → List Stand → List Shape
bars_from row node s start column [] = bar_of row start column s node
bars_from row node s start column (next ∷ rest) =
    if is_same next s
    then bars_from row node s start (column + 1) rest
    else bar_of row start column s node ++ bars_from row node next column (column + 1) rest

abbrev pub names_of : ℕ → ℕ → ℕ → List Shape
names_of row columns node = map (λ k. Name row (NAMED_EVERY * k) node) (range_with_len 0 (name_count columns))

-- the row of a node, made from the node's state after each command
abbrev pub row_shapes : List ℕ → ℕ → List Stand → ℕ → List Shape
row_shapes shown columns stands node =
    Lane (row_of shown node) columns ∷ bars_from (row_of shown node) node stand.Away 0 0 stands ++ names_of (row_of shown node) columns node

-- the arrow of a command, if the turn passed from one node to another
abbrev pub arrow_of : List ℕ → ℕ → ℕ → Option ℕ → Option ℕ → List Shape
arrow_of shown column number None after = []
arrow_of shown column number (Some from) None = []
arrow_of shown column number (Some from) (Some to) =
    if from == to then [] else Arrow column number (row_of shown from) from (row_of shown to) to ∷ []

-- the bytes that a command with this answer wrote, if it wrote any
abbrev pub bytes_of : List ℕ → ℕ → Command → Said → List Shape
bytes_of shown column (Write node line mask bytes) said.Written = Bytes (row_of shown node) column bytes.bytes (places_in mask.0) ∷ []
bytes_of shown column c what = []

-- the shapes of a command
abbrev pub column_shapes : List ℕ → ℕ → Event → List Shape
column_shapes shown column event =
    Number column event.number ∷ arrow_of shown column event.number event.change.before event.change.after
    ++ bytes_of shown column event.command event.change.said ++ Call (row_of shown event.change.node) column event ∷ []

-- the event that stands for a place outside the list
abbrev pub no_event : Event
no_event = record { number = 0; command = Enq 0 0; change = record { node = 0; said = said.Misuse; told = false; before = None; after = None } }

-- the shapes of some commands
abbrev pub columns_of : List ℕ → List Event → List Shape
columns_of shown events = flat_map (λ k. column_shapes shown k (slice_index_or events k no_event)) (range_with_len 0 (length events))

-- the state of a node after each step
abbrev pub stands_of : List Step → ℕ → List Stand
stands_of steps n = map (λ step. stand_of (mark_at step n)) steps

-- the shapes of the steps on a line of `nodes` nodes
abbrev pub shapes_of : ℕ → List Step → List Shape
shapes_of nodes steps =
    flat_map (λ n. row_shapes (callers nodes steps) (length steps) (stands_of steps n) n) (callers nodes steps)
    ++ columns_of (callers nodes steps) (map event_of steps)

-- the shapes of a line of a schedule
abbrev pub timeline_of : Script → ℕ → List Shape
timeline_of script line = shapes_of script.nodes (steps_on line script)

-- the number of nodes that make calls on a line; the number of commands on the line
abbrev pub rows_on : Script → ℕ → ℕ
rows_on script line = length (callers script.nodes (steps_on line script))

abbrev pub columns_on : Script → ℕ → ℕ
columns_on script line = length (steps_on line script)

-- the y coordinate of a line's top; the lines are below each other, under the legend
abbrev pub top_of : Script → ℕ → ℕ
top_of script line = 64 + sum_by (λ k. height_of (rows_on script k)) (range_with_len 0 line)

-- the width of the widest of these lines, and at least the width of the legend
abbrev pub widest : Script → ℕ → ℕ
widest script lines = fold (λ width k. max width (width_of (columns_on script k))) 640 (range_with_len 0 lines)

abbrev pub line_svg : Script → ℕ → List ℕ
line_svg script line = line_begin (top_of script line) line ++ texts (timeline_of script line) ++ codes "</g>\n"

abbrev pub svg_of : Script → List ℕ
svg_of script = svg_head (widest script script.lines) (top_of script script.lines) ++ LEGEND.now ++ flat_map (line_svg script) (range_with_len 0 script.lines) ++ TAIL.now
