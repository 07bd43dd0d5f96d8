-- Theorems about the picture of a schedule. The picture shows the states that the lines have in a replay, and no shape
-- lies outside the picture. The theorems in this file were stated for this project; none is taken from the literature.
use Rattle.std.specs.Prelude.{◌≡◌, ℕ, ◌+◌, ◌-◌, ◌*◌, max, ◌<◌, ◌≤◌, ◌==◌, ◌&&◌, nat_le, nat_lt, true, if◌then◌else◌, List, [], ◌∷◌, flat_map, Some, slice_get}
use Rattle.std.specs.List.{All, list_any}
use Rattle.qolb_script.specs.Commands.{node_of}
use Rattle.qolb_script.specs.Script.{IsInRange, Script}
use Rattle.qolb_script.specs.Reply.{replay_of, line_at}
use Rattle.qolb_draw.specs.declared.bar.Stand.{Stand}
use Rattle.qolb_draw.specs.declared.bar.Stand.TheVariants as stand
use Rattle.qolb_draw.specs.LineRuns.{Step, mark_at, run_of, steps_on}
use Rattle.qolb_draw.specs.Svg.{name_y, x_of, y_of}
use Rattle.qolb_draw.specs.Timelines.{top_of, widest}
use Rattle.qolb_draw.specs.Shapes.{Shape, Lane, Bar, Name, Number, Arrow, Bytes, Call, stand_of}
use Rattle.qolb_draw.specs.Timelines.{timeline_of}

-- executing only the commands on a line leaves the line in the same state as executing all commands of the script;
-- therefore, each command is drawn with the line in the state that it has in the replay
abbrev pub DrawnAsReplayed : Type 0
DrawnAsReplayed = (script : Script) (line : ℕ) → line < script.lines → (run_of line script).now ≡ line_at (replay_of script).lines line

-- the kinds of the bars that a node has over a column
abbrev pub kind_over : ℕ → ℕ → Shape → List Stand
kind_over node column (Bar row start end s n) = if (n == node) && (nat_le start column && nat_lt column end) then s ∷ [] else []
kind_over node column shape = []

abbrev pub kinds_over : ℕ → ℕ → List Shape → List Stand
kinds_over node column shapes = flat_map (kind_over node column) shapes

-- the kinds of the bars of a node in this state: one kind, or none if the node is away
abbrev pub shown_as : Stand → List Stand
shown_as stand.Away = []
shown_as s = s ∷ []

-- Over each command, a node that makes calls has one bar, whose kind is that of the node's mark after the command. If
-- the mark has no bar, the node has no bar over the command.
abbrev pub BarsCoverMarks : Type 0
BarsCoverMarks = (script : Script) (line n column : ℕ) (step : Step) → 1 ≤ n → n ≤ script.nodes → list_any (λ (s : Step). node_of s.command == n) (steps_on line script) ≡ true → slice_get (steps_on line script) column ≡ Some step → kinds_over n column (timeline_of script line) ≡ shown_as (stand_of (mark_at step n))

-- the right end of a shape, and its lower end relative to the top of its line, in pixels: a sign extends 8 to each side
-- of its middle and 12 downwards, a word above a row or a column extends 24 to each side, and letters extend 3 below
-- their baseline
abbrev pub right_of : Shape → ℕ
right_of (Lane row columns) = x_of columns
right_of (Bar row start end s node) = x_of start + 32 * (end - start)
right_of (Name row column node) = x_of column
right_of (Number column number) = x_of column + 24
right_of (Arrow column number giver from taker to) = x_of column + 8
right_of (Bytes row column bytes places) = x_of column + 24
right_of (Call row column event) = x_of column + 24

abbrev pub foot_of : Shape → ℕ
foot_of (Lane row columns) = y_of row + 1
foot_of (Bar row start end s node) = y_of row + 8
foot_of (Name row column node) = name_y row column + 3
foot_of (Number column number) = 36 + 3
foot_of (Arrow column number giver from taker to) = max (y_of giver) (y_of taker)
foot_of (Bytes row column bytes places) = y_of row - 11 + 3
foot_of (Call row column event) = y_of row + 12

-- a shape of a line lies within the picture's width, and above the next line
abbrev pub IsWithin : Script → ℕ → Shape → Type 0
IsWithin script line shape = (right_of shape ≤ widest script script.lines) × (top_of script line + foot_of shape ≤ top_of script (line + 1))

-- no shape of a line lies outside the picture, nor in the next line
abbrev pub ShapesLieWithin : Type 0
ShapesLieWithin = (script : Script) (line : ℕ) → IsInRange script → line < script.lines → All (IsWithin script line) (timeline_of script line) × (top_of script (line + 1) ≤ top_of script script.lines)
