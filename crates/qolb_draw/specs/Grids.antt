-- The grid of a line: the mark of each node after each command. The plain text and the timeline of the line are made
-- from this grid. The definitions in this file were made for this project; none is taken from the literature.
use Rattle.std.specs.Prelude.{◌≡◌, ℕ, ◌+◌, ◌-◌, ◌*◌, ◌==◌, min, List, [], ◌∷◌, ◌++◌, length, map, filter, flat_map, take, drop, codes}
use Rattle.std.specs.List.{list_any, range_with_len, slice_index_or}
use Rattle.qolb_model.specs.declared.answer.PortState.{PortState}
use Rattle.qolb_model.specs.declared.answer.PortState.TheVariants as port
use Rattle.qolb_model.specs.Plain.{PlainView, node_state}
use Rattle.qolb_script.specs.Commands.{node_of}
use Rattle.qolb_draw.specs.declared.symbol.Symbol.{Symbol}
use Rattle.qolb_draw.specs.declared.symbol.Symbol.TheVariants as symbol
use Rattle.qolb_draw.specs.declared.symbol.Change.{Change}
use Rattle.qolb_draw.specs.Marks.{mark_of}
use Rattle.qolb_draw.specs.declared.text.TheConstants.{COLUMNS}
use Rattle.qolb_draw.specs.LineRuns.{Step, mark_at, event_of}
use Rattle.qolb_draw.specs.declared.event.Event.{Event}
use Rattle.qolb_draw.specs.declared.bar.Stand.{Stand}
use Rattle.qolb_draw.specs.declared.bar.Stand.TheVariants as stand
use Rattle.qolb_draw.specs.Svg.{line_begin, texts}
use Rattle.qolb_draw.specs.Shapes.{Shape, stand_of}
use Rattle.qolb_draw.specs.Timelines.{bars_from, columns_of, row_shapes}
use Rattle.qolb_draw.specs.Pictures.{letter_of, label_of, label_room, block_count}
use Rattle.qolb_draw.specs.Heads.{heads_text}

-- the marks of the nodes after each step, and the steps' numbers and nodes
abbrev pub marks_of : ℕ → List Step → List Symbol
marks_of nodes steps = flat_map (λ step. map (mark_at step) (range_with_len 1 nodes)) steps

abbrev pub numbers_of : List Step → List ℕ
numbers_of steps = map (λ step. step.number) steps

abbrev pub nodes_of : List Step → List ℕ
nodes_of steps = map (λ step. node_of step.command) steps

-- these are the numbers, nodes, events and marks that a grid records for some steps
pub record IsGrid (nodes : ℕ) (steps : List Step) (rows : ℕ) (numbers callers : List ℕ) (events : List Event) (marks : List Symbol) : Type 0 where
  pub rows_are : rows ≡ nodes
  pub numbers_are : numbers ≡ numbers_of steps
  pub callers_are : callers ≡ nodes_of steps
  pub events_are : events ≡ map event_of steps
  pub marks_are : marks ≡ marks_of nodes steps

-- the marks of all nodes after a command with this change, which left the line in this state
abbrev pub column_out_of : PlainView → Change → ℕ → List Symbol
column_out_of line change nodes = map (λ n. mark_of change (node_state line n) n) (range_with_len 1 nodes)

-- the marks of all nodes after a command with this change; the states are indexed by the nodes' numbers, and the first
-- belongs to no node
abbrev pub column_by : Change → List PortState → List Symbol
column_by change states = map (λ n. mark_of change (slice_index_or states n port.Idle) n) (range_with_len 1 (length states - 1))

-- the mark of node n after command k
abbrev pub mark_out_of : ℕ → List Symbol → ℕ → ℕ → Symbol
mark_out_of nodes marks n k = slice_index_or marks (k * nodes + (n - 1)) symbol.Idle

-- the row of a node for some commands; the block of some nodes; all blocks
abbrev pub row_out_of : ℕ → List Symbol → ℕ → ℕ → ℕ → List ℕ
row_out_of nodes marks start count n = label_of n ++ map (λ k. letter_of (mark_out_of nodes marks n k)) (range_with_len start count) ++ 10 ∷ []

abbrev pub block_out_of : ℕ → List Symbol → List ℕ → List ℕ → ℕ → ℕ → List ℕ
block_out_of nodes marks numbers shown start count = 10 ∷ [] ++ heads_text label_room (take count (drop start numbers)) ++ flat_map (row_out_of nodes marks start count) shown

abbrev pub blocks_out_of : ℕ → List Symbol → List ℕ → List ℕ → List ℕ
blocks_out_of nodes marks numbers shown =
    flat_map (λ k. block_out_of nodes marks numbers shown (COLUMNS * k) (min COLUMNS (length numbers - COLUMNS * k))) (range_with_len 0 (block_count (length numbers)))

-- the nodes that made calls, in ascending order
abbrev pub shown_out_of : ℕ → List ℕ → List ℕ
shown_out_of nodes called = filter (λ n. list_any (λ m. m == n) called) (range_with_len 1 nodes)

-- the picture of a line
abbrev pub line_out_of : ℕ → ℕ → List ℕ → List ℕ → List Symbol → List ℕ
line_out_of line nodes numbers callers marks = codes "line " ++ (48 + line) ∷ 10 ∷ [] ++ blocks_out_of nodes marks numbers (shown_out_of nodes callers) ++ 10 ∷ []

-- the states of a node after each of `count` commands, beginning with command `start`
abbrev pub stands_out_of : ℕ → List Symbol → ℕ → ℕ → ℕ → List Stand
stands_out_of nodes marks n start count = map (λ k. stand_of (mark_out_of nodes marks n k)) (range_with_len start count)

-- the node's bars, and its row
abbrev pub bars_out_of : ℕ → List Symbol → ℕ → ℕ → ℕ → List Shape
bars_out_of nodes marks columns row n = bars_from row n stand.Away 0 0 (stands_out_of nodes marks n 0 columns)

abbrev pub row_shapes_out_of : List ℕ → ℕ → List Symbol → ℕ → ℕ → List Shape
row_shapes_out_of shown nodes marks columns n = row_shapes shown columns (stands_out_of nodes marks n 0 columns) n

-- the timeline of a line
abbrev pub shapes_out_of : List ℕ → ℕ → List Symbol → ℕ → List Event → List Shape
shapes_out_of shown nodes marks columns events = flat_map (row_shapes_out_of shown nodes marks columns) shown ++ columns_of shown events

abbrev pub line_svg_out_of : ℕ → ℕ → ℕ → ℕ → List ℕ → List Event → List Symbol → List ℕ
line_svg_out_of top line nodes columns callers events marks =
    line_begin top line ++ texts (shapes_out_of (shown_out_of nodes callers) nodes marks columns events) ++ codes "</g>\n"
