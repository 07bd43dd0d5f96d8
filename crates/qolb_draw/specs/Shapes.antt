-- The shapes of a timeline. A column represents a command on the line, and a row represents a node that makes calls on
-- the line. Columns and rows are counted from 0. A bar extends from the command of one column to the command of another
-- column. The definitions in this file were made for this project; none is taken from the literature.
use Rattle.std.specs.Prelude.{ℕ, ◌+◌, ◌-◌, ◌/◌, Bool, true, false, if◌then◌else◌, List, [], ◌∷◌, flat_map}
use Rattle.std.specs.List.{range_with_len}
use Rattle.line_lanes.specs.Mask.{is_masked}
use Rattle.qolb_draw.specs.declared.bar.Stand.{Stand}
use Rattle.qolb_draw.specs.declared.bar.Stand.TheVariants as stand
use Rattle.qolb_draw.specs.declared.event.Event.{Event}
use Rattle.qolb_draw.specs.declared.symbol.Symbol.{Symbol}
use Rattle.qolb_draw.specs.declared.symbol.Symbol.TheVariants as symbol
use Rattle.qolb_draw.specs.declared.svg.TheConstants.{NAMED_EVERY}

pub data Shape : Type 0 where
  -- the thin line of a row, through `columns` columns
  Lane : (row columns : ℕ) → Shape
  -- the bar of a node in this state, from one column to another
  Bar : (row start end : ℕ) → Stand → (node : ℕ) → Shape
  -- the name of a node
  Name : (row column node : ℕ) → Shape
  -- the number of a command
  Number : (column number : ℕ) → Shape
  -- a command passes the turn from a node (`from`, in row `giver`) to another node (`to`, in row `taker`)
  Arrow : (column number giver from taker to : ℕ) → Shape
  -- the bytes of these places of a line that were written
  Bytes : (row column : ℕ) → List ℕ → (places : List ℕ) → Shape
  -- a command, with its answer
  Call : (row column : ℕ) → Event → Shape

-- the kind of bar that shows a mark
abbrev pub stand_of : Symbol → Stand
stand_of symbol.Idle = stand.Away
stand_of symbol.Waits = stand.Waits
stand_of symbol.AtTurn = stand.AtTurn
stand_of symbol.Holds = stand.Holds
stand_of symbol.Withdrawn = stand.Withdrawn
stand_of symbol.Shut = stand.Away
stand_of symbol.Told = stand.Away
stand_of symbol.Gives = stand.Away
stand_of symbol.Takes = stand.AtTurn
stand_of (symbol.Misuse stand) = stand

abbrev pub is_same : Stand → Stand → Bool
is_same stand.Away stand.Away = true
is_same stand.Waits stand.Waits = true
is_same stand.AtTurn stand.AtTurn = true
is_same stand.Holds stand.Holds = true
is_same stand.Withdrawn stand.Withdrawn = true
is_same a b = false

-- how many times a node's name occurs in a row
abbrev pub name_count : ℕ → ℕ
name_count columns = (columns + (NAMED_EVERY - 1)) / NAMED_EVERY

-- the places of a line that a mask selects
abbrev pub place_if : ℕ → ℕ → List ℕ
place_if mask k = if is_masked mask k then k ∷ [] else []

unfoldable pub places_in : ℕ → List ℕ
places_in mask = flat_map (place_if mask) (range_with_len 0 64)
