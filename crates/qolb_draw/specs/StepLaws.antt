-- Theorems about the picture of a step script. The bars show at which point of the lock algorithm a node is after each
-- event, and no shape lies outside the picture. The theorems in this file were stated for this project; none is taken
-- from the literature.
use Rattle.std.specs.Prelude.{◌≡◌, ℕ, ◌+◌, ◌-◌, ◌*◌, ◌≤◌, ◌==◌, ◌&&◌, nat_le, nat_lt, Bool, if◌then◌else◌, List, [], ◌∷◌, length, take, flat_map, Some, slice_get}
use Rattle.std.specs.List.{All, list_any}
use Rattle.link_core.specs.declared.event.Event.{Event}
use Rattle.link_core.specs.declared.point.Point.{Point}
use Rattle.link_core.specs.declared.state.State.{State}
use Rattle.link_core.specs.State.{first, point}
use Rattle.link_core.specs.Steps.{node_of}
use Rattle.qolb_model.specs.declared.config.TheConstants.{MAX_NODES}
use Rattle.qolb_replay.specs.StepRuns.{line_of}
use Rattle.qolb_script.specs.StepScript.{StepScript, IsOfItsNodes}
use Rattle.qolb_draw.specs.StepPictures.{step_height, step_width}
use Rattle.qolb_draw.specs.StepShapes.{StepShape, Lane, Name, Number, At, Lies, Home, Word, Act, Seen, Watches, step_timeline}
use Rattle.qolb_draw.specs.StepSvg.{row_name_y, row_of_place, step_x, step_y}

-- the points that the node's bars over a column show
abbrev pub point_over : ℕ → ℕ → StepShape → List Point
point_over node column (At n start end p) = if (n == node) && (nat_le start column && nat_lt column end) then p ∷ [] else []
point_over node column shape = []

abbrev pub points_over : ℕ → ℕ → List StepShape → List Point
points_over node column shapes = flat_map (point_over node column) shapes

-- one of the first `count` events is the node's
abbrev pub has_acted : ℕ → ℕ → List Event → Bool
has_acted n count events = list_any (λ e. node_of e == n) (take count events)

-- Over each event, a node has one bar, which shows its point after the event. A node that has made no event up to then
-- has no bar.
abbrev pub BarsCoverPoints : Type 0
BarsCoverPoints = (script : StepScript) (all : List Seen) (last : State) (n column : ℕ) (seen : Seen) → Watches (first (line_of script)) script.events all last → slice_get all column ≡ Some seen → points_over n column (step_timeline script all) ≡ (if has_acted n (column + 1) script.events then point seen.after n ∷ [] else [])

-- the right end of a shape, and its lower end relative to the top of the rows, in pixels: a sign extends 8 to each side
-- of its middle and 12 downwards, a word above a row or a column extends 24 to each side, a point's name is at most 16
-- wider than a short bar, and letters extend 3 below their baseline
abbrev pub step_right_of : StepShape → ℕ
step_right_of (Lane row columns) = step_x columns
step_right_of (Name row column) = step_x column
step_right_of (Number column) = step_x column + 24
step_right_of (At node start end p) = step_x start + 72 * (end - start) + 16
step_right_of (Lies column place) = step_x column + 72
step_right_of (Home column word) = step_x column + 24
step_right_of (Word column node e) = step_x column + 24
step_right_of (Act column e what) = step_x column + 24

abbrev pub step_foot_of : StepShape → ℕ
step_foot_of (Lane row columns) = step_y row + 1
step_foot_of (Name row column) = row_name_y row column + 3
step_foot_of (Number column) = 36 + 3
step_foot_of (At node start end p) = step_y node + 8
step_foot_of (Lies column place) = step_y (row_of_place place) + 15
step_foot_of (Home column word) = 57 + 3
step_foot_of (Word column node e) = step_y node - 11 + 3
step_foot_of (Act column e what) = step_y (node_of e) + 12

-- no shape lies outside the picture, whose rows begin 64 below its top
abbrev pub IsWithinSteps : StepScript → StepShape → Type 0
IsWithinSteps script shape = (step_right_of shape ≤ step_width (length script.events)) × (64 + step_foot_of shape ≤ step_height script.nodes)

abbrev pub StepShapesLieWithin : Type 0
StepShapesLieWithin = (script : StepScript) (all : List Seen) (last : State) → script.nodes ≤ MAX_NODES → IsOfItsNodes script → Watches (first (line_of script)) script.events all last → All (IsWithinSteps script) (step_timeline script all)
