-- How shapes are written as SVG. In the picture of a schedule, a column is 32 pixels wide and a row is 40 pixels high.
-- In the picture of a step script, a column is 72 pixels wide and a row is 48 pixels high. The definitions in this file
-- were made for this project; none is taken from the literature.
use Rattle.std.specs.Prelude.{ℕ, ◌+◌, ◌-◌, ◌*◌, ◌/◌, ◌%◌, ◌==◌, nat_lt, if◌then◌else◌, List, [], ◌∷◌, ◌++◌, length, flat_map, take, codes, decimal, slice_index, Option, Some, None}
use Rattle.std.specs.List.{range_with_len}
use Rattle.qolb_model.specs.declared.answer.Out.TheVariants as out
use Rattle.qolb_script.specs.declared.command.Command.{Command}
use Rattle.qolb_script.specs.declared.command.Command.TheVariants.{Write}
use Rattle.qolb_script.specs.declared.reply_text.Said.{Said}
use Rattle.qolb_script.specs.declared.reply_text.Said.TheVariants as said
use Rattle.qolb_script.specs.Commands.{node_of, line_of}
use Rattle.qolb_script.specs.Said.{said_words}
use Rattle.qolb_script.specs.Reply.{is_told}
use Rattle.qolb_draw.specs.declared.bar.Stand.{Stand}
use Rattle.qolb_draw.specs.declared.bar.Stand.TheVariants as stand
use Rattle.qolb_draw.specs.declared.event.Event.{Event}
use Rattle.qolb_draw.specs.declared.svg.TheConstants.{NAMED_EVERY, STYLE}
use Rattle.qolb_draw.specs.declared.svg.Scale.{Scale}
use Rattle.qolb_draw.specs.declared.svg.Scale.TheVariants as scale
use Rattle.qolb_draw.specs.Shapes.{Shape, Lane, Bar, Name, Number, Arrow, Bytes, Call, name_count, places_in}
use Rattle.qolb_words.specs.Words.{field, joined, number_if, verb_of}

-- the x coordinate of the command or event in a column; the y coordinate of a row's middle, relative to the top of its
-- line
abbrev pub x_at : Scale → ℕ → ℕ
x_at scale.Schedule column = 96 + 32 * column
x_at scale.Steps column = 96 + 72 * column

abbrev pub y_at : Scale → ℕ → ℕ
y_at scale.Schedule row = 68 + 40 * row
y_at scale.Steps row = 68 + 48 * row

-- the width of this number of columns
abbrev pub width_at : Scale → ℕ → ℕ
width_at scale.Schedule columns = 32 * columns
width_at scale.Steps columns = 72 * columns

-- the y coordinate of a row's name, which is beside the row in column 0 and below the bars in later columns
abbrev pub below : Scale → ℕ
below scale.Schedule = 19
below scale.Steps = 26

abbrev pub name_y_at : Scale → ℕ → ℕ → ℕ
name_y_at s row column = if column == 0 then y_at s row + 4 else y_at s row + below s

-- the same coordinates in the picture of a schedule
abbrev pub x_of : ℕ → ℕ
x_of column = x_at scale.Schedule column

abbrev pub y_of : ℕ → ℕ
y_of row = y_at scale.Schedule row

abbrev pub name_y : ℕ → ℕ → ℕ
name_y row column = name_y_at scale.Schedule row column

-- the class of a bar, which determines the bar's colour
abbrev pub class_of : Stand → List ℕ
class_of stand.Away = codes "away"
class_of stand.Waits = codes "waits"
class_of stand.AtTurn = codes "turn"
class_of stand.Holds = codes "holds"
class_of stand.Withdrawn = codes "withdrawn"

-- the words that a bar shows
abbrev pub words_of : Stand → List ℕ
words_of stand.Away = codes " is away"
words_of stand.Waits = codes " waits"
words_of stand.AtTurn = codes " may take its turn"
words_of stand.Holds = codes " holds the line"
words_of stand.Withdrawn = codes " has withdrawn"

-- the sign of a command with this answer
abbrev pub sign_of : Said → List ℕ
sign_of (said.Out out.Withdrawn) = codes "out"
sign_of said.Misuse = codes "misuse"
sign_of what = if is_told what then codes "told" else codes "call"

-- a byte in two hex digits; the bytes of some places of a line
abbrev pub digit_of : ℕ → ℕ
digit_of n = slice_index (codes "0123456789abcdef") n

abbrev pub hex_of : List ℕ → List ℕ → List ℕ
hex_of bytes places = flat_map (λ k. digit_of (slice_index bytes k / 16) ∷ digit_of (slice_index bytes k % 16) ∷ []) places

-- the first two of these bytes, and an ellipsis if there are more
abbrev pub shortened : List ℕ → List ℕ → List ℕ
shortened bytes places = hex_of bytes (take 2 places) ++ (if nat_lt 2 (length places) then codes "&#8230;" else [])

-- the words of a write that follow its line
abbrev pub written_words : Command → List ℕ
written_words (Write node line mask bytes) = field (codes " ") (slice_index (places_in mask.0) 0) ++ codes " " ++ hex_of bytes.bytes (places_in mask.0)
written_words c = []

-- a command in the notation of a schedule
abbrev pub command_words : Command → List ℕ
command_words c = verb_of c ++ field (codes " ") (node_of c) ++ field (codes " ") (line_of c) ++ written_words c

-- the text of each shape
abbrev pub lane_text : Scale → ℕ → ℕ → List ℕ
lane_text s row columns = joined (codes "<path class='lane' d='M96 " ∷ decimal (y_at s row) ∷ codes "H" ∷ decimal (x_at s columns) ∷ codes "'/>\n" ∷ [])

-- a bar of this class, with these words
abbrev pub span_text : Scale → ℕ → ℕ → ℕ → List ℕ → ℕ → List ℕ → List ℕ
span_text s row start end class node says =
    joined (codes "<rect class='" ∷ class ∷ codes "' x='" ∷ decimal (x_at s start) ∷ codes "' y='" ∷ decimal (y_at s row - 8) ∷ codes "' width='" ∷ decimal (width_at s (end - start)) ∷ codes "' height='16'><title>node " ∷ decimal node ∷ [])
    ++ says ++ codes "</title></rect>\n"

abbrev pub bar_text : ℕ → ℕ → ℕ → Stand → ℕ → List ℕ
bar_text row start end s node = span_text scale.Schedule row start end (class_of s) node (joined (words_of s ∷ []))

-- the name of a row, and the number that follows the name; 0 stands for the row of the home word
abbrev pub row_words : ℕ → List ℕ
row_words node = if node == 0 then codes "home" else codes "node "

abbrev pub row_number : ℕ → Option ℕ
row_number node = if node == 0 then None else Some node

-- one occurrence of a row's name, and all of them
abbrev pub name_text : Scale → ℕ → ℕ → ℕ → List ℕ
name_text s row column node =
    joined (codes "<text class='name' x='" ∷ decimal (x_at s column - 88) ∷ codes "' y='" ∷ decimal (name_y_at s row column) ∷ codes "'>" ∷ row_words node ∷ number_if (row_number node) ∷ codes "</text>\n" ∷ [])

abbrev pub names_text : Scale → ℕ → ℕ → ℕ → List ℕ
names_text s row columns node = flat_map (λ k. name_text s row (NAMED_EVERY * k) node) (range_with_len 0 (name_count columns))

abbrev pub number_text : Scale → ℕ → ℕ → List ℕ
number_text s column number = joined (codes "<text class='small' x='" ∷ decimal (x_at s column) ∷ codes "' y='36'>" ∷ decimal number ∷ codes "</text>\n" ∷ [])

abbrev pub arrow_text : ℕ → ℕ → ℕ → ℕ → ℕ → ℕ → List ℕ
arrow_text column number giver from taker to =
    joined (codes "<path class='arrow' d='M" ∷ decimal (x_of column) ∷ codes " " ∷ decimal (y_of giver) ∷ codes "V" ∷ decimal (y_of taker) ∷ codes "'><title>" ∷ decimal number ∷ codes ": node " ∷ decimal from ∷ codes " hands over to node " ∷ decimal to ∷ codes "</title></path>\n" ∷ [])

abbrev pub bytes_text : ℕ → ℕ → List ℕ → List ℕ → List ℕ
bytes_text row column bytes places =
    field (codes "<text class='small' x='") (x_of column) ++ field (codes "' y='") (y_of row - 11) ++ codes "'>" ++ shortened bytes places ++ codes "</text>\n"

-- the text of a sign before the words of its title, and after them; the latter has the first word of the command or
-- event, which is above the column
abbrev pub sign_begin : Scale → ℕ → ℕ → List ℕ → List ℕ
sign_begin s row column sign = joined (codes "<use href='#" ∷ sign ∷ codes "' x='" ∷ decimal (x_at s column) ∷ codes "' y='" ∷ decimal (y_at s row) ∷ codes "'><title>" ∷ [])

abbrev pub sign_end : Scale → ℕ → List ℕ → List ℕ
sign_end s column verb = joined (codes "</title></use>\n<text class='small' x='" ∷ decimal (x_at s column) ∷ codes "' y='47'>" ∷ verb ∷ codes "</text>\n" ∷ [])

abbrev pub call_text : ℕ → ℕ → Event → List ℕ
call_text row column event =
    sign_begin scale.Schedule row column (sign_of event.change.said) ++ joined (decimal event.number ∷ codes ": " ∷ []) ++ command_words event.command
    ++ codes ": " ++ said_words event.change.said ++ sign_end scale.Schedule column (verb_of event.command)

abbrev pub shape_text : Shape → List ℕ
shape_text (Lane row columns) = lane_text scale.Schedule row columns
shape_text (Bar row start end s node) = bar_text row start end s node
shape_text (Name row column node) = name_text scale.Schedule row column node
shape_text (Number column number) = number_text scale.Schedule column number
shape_text (Arrow column number giver from taker to) = arrow_text column number giver from taker to
shape_text (Bytes row column bytes places) = bytes_text row column bytes places
shape_text (Call row column event) = call_text row column event

abbrev pub texts : List Shape → List ℕ
texts shapes = flat_map shape_text shapes

-- the height of a line with `rows` rows; the width of a line with `columns` columns
abbrev pub height_of : ℕ → ℕ
height_of rows = 60 + 40 * rows

abbrev pub width_of : ℕ → ℕ
width_of columns = x_of columns + 32

-- a line at this height: its number, and its shapes
abbrev pub line_begin : ℕ → ℕ → List ℕ
line_begin top line = field (codes "<g transform='translate(0,") top ++ field (codes ")'><text x='8' y='16'>line ") line ++ codes "</text>\n"

-- the whole picture: its size and colours, the legend, and the lines
abbrev pub svg_head : ℕ → ℕ → List ℕ
svg_head width height = field (codes "<svg xmlns='http://www.w3.org/2000/svg' width='") width ++ field (codes "' height='") height ++ STYLE.now
