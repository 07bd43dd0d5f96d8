-- How the shapes of a step script's picture are written as SVG. The definitions in this file were made for this
-- project; none is taken from the literature.
use Rattle.std.specs.Prelude.{ℕ, ◌+◌, ◌-◌, ◌*◌, ◌==◌, min, Bool, if◌then◌else◌, List, [], ◌++◌, flat_map, codes, Option, Some, None, decimal, ◌∷◌}
use Rattle.link_core.specs.declared.entry.Entry.{Entry}
use Rattle.link_core.specs.declared.event.Event.{Event}
use Rattle.link_core.specs.declared.event.Event.TheVariants as event
use Rattle.link_core.specs.declared.place.Place.{Place}
use Rattle.link_core.specs.declared.place.Place.TheVariants as place
use Rattle.link_core.specs.declared.point.Point.{Point}
use Rattle.link_core.specs.declared.point.Point.TheVariants as point
use Rattle.link_core.specs.declared.told.Told.{Told}
use Rattle.link_core.specs.declared.told.Told.TheVariants as told
use Rattle.link_core.specs.Steps.{node_of}
use Rattle.qolb_model.specs.declared.config.TheConstants.{MAX_NODES}
use Rattle.qolb_script.specs.declared.command.Command.TheVariants.{Write}
use Rattle.qolb_script.specs.Said.{said_words}
use Rattle.qolb_script.specs.StepReply.{step_said}
use Rattle.qolb_draw.specs.declared.svg.Scale.TheVariants as scale
use Rattle.qolb_words.specs.Words.{joined, named_by, number_if, point_name, step_verb}
use Rattle.qolb_draw.specs.Svg.{lane_text, name_text, name_y_at, number_text, sign_begin, sign_end, span_text, written_words, x_at, y_at}
use Rattle.qolb_draw.specs.StepShapes.{StepShape, Lane, Name, Number, At, Lies, Home, Word, Act}

-- the x coordinate of an event; the y coordinates of a row's middle and of its name
abbrev pub step_x : ℕ → ℕ
step_x column = x_at scale.Steps column

abbrev pub step_y : ℕ → ℕ
step_y row = y_at scale.Steps row

abbrev pub row_name_y : ℕ → ℕ → ℕ
row_name_y row column = name_y_at scale.Steps row column

-- the class of a point's bar, which tells whether the node asks or waits, holds, releases, has withdrawn, or is in no
-- call
abbrev pub class_at : Point → List ℕ
class_at point.Idle = codes "rests"
class_at point.Ready = codes "waits"
class_at (point.Linking n) = codes "waits"
class_at point.Queued = codes "waits"
class_at point.Holding = codes "holds"
class_at (point.Leaving n) = codes "releases"
class_at (point.Marking n) = codes "releases"
class_at (point.Granting n) = codes "releases"
class_at point.Freeing = codes "releases"
class_at point.Left = codes "rests"
class_at point.Rolled = codes "withdrawn"
class_at point.Shut = codes "rests"

-- the words that describe a place; the node that it belongs to; and the row that shows it
abbrev pub place_name : Place → List ℕ
place_name place.Home = codes "the line lies at home"
place_name (place.Mailbox n) = codes "the line lies in the mailbox of node "
place_name (place.Hand n) = codes "the line lies in the hand of node "

abbrev pub whose : Place → Option ℕ
whose place.Home = None
whose (place.Mailbox n) = Some n
whose (place.Hand n) = Some n

abbrev pub place_words : Place → List ℕ
place_words p = joined (place_name p ∷ number_if (whose p) ∷ [])

abbrev pub row_of_place : Place → ℕ
row_of_place place.Home = 0
row_of_place (place.Mailbox n) = min n MAX_NODES
row_of_place (place.Hand n) = min n MAX_NODES

abbrev pub class_of_place : Place → List ℕ
class_of_place place.Home = codes "home"
class_of_place (place.Mailbox n) = codes "mailbox"
class_of_place (place.Hand n) = codes "hand"

-- an entry: a letter for each flag that is set, and the link
abbrev pub letter_if : Bool → List ℕ → List ℕ
letter_if flag letter = if flag then letter else []

abbrev pub entry_words : Entry → List ℕ
entry_words e = joined (letter_if e.granted (codes "g") ∷ letter_if e.rolled (codes "r") ∷ letter_if e.done (codes "d") ∷ letter_if e.freed (codes "f") ∷ decimal e.link ∷ [])

-- the words of a write that follow its node; the whole event in the notation of a step script
abbrev pub placed_words : Event → List ℕ
placed_words (event.Write n mask bytes) = written_words (Write n 0 mask bytes)
placed_words e = []

abbrev pub event_words : Event → List ℕ
event_words e = joined (step_verb e ∷ codes " " ∷ decimal (node_of e) ∷ []) ++ placed_words e

-- the words of an event and of its answer; the same, with the number of the event before them
abbrev pub heard_words : Event → Option Told → List ℕ
heard_words e what = event_words e ++ codes ": " ++ said_words (step_said what)

abbrev pub told_words : ℕ → Event → Option Told → List ℕ
told_words column e what = joined (decimal (column + 1) ∷ codes ": " ∷ []) ++ heard_words e what

-- the sign of an event with this answer
abbrev pub sign_at : Option Told → List ℕ
sign_at (Some told.Withdrawn) = codes "out"
sign_at (Some told.Closed) = codes "told"
sign_at None = codes "misuse"
sign_at what = codes "call"

-- the text of each shape
abbrev pub at_bar_text : ℕ → ℕ → ℕ → Point → List ℕ
at_bar_text node start end p = span_text scale.Steps node start end (class_at p) node (joined (codes ": " ∷ point_name p ∷ number_if (named_by p) ∷ []))

abbrev pub at_name_text : ℕ → ℕ → Point → List ℕ
at_name_text node start p =
    joined (codes "<text class='at' x='" ∷ decimal (step_x start + 8) ∷ codes "' y='" ∷ decimal (step_y node + 3) ∷ codes "'>" ∷ point_name p ∷ number_if (named_by p) ∷ codes "</text>\n" ∷ [])

abbrev pub at_text : ℕ → ℕ → ℕ → Point → List ℕ
at_text node start end p = at_bar_text node start end p ++ at_name_text node start p

abbrev pub lies_text : ℕ → Place → List ℕ
lies_text column p =
    joined (codes "<rect class='" ∷ class_of_place p ∷ codes "' x='" ∷ decimal (step_x column) ∷ codes "' y='" ∷ decimal (step_y (row_of_place p) + 10) ∷ codes "' width='72' height='5'><title>" ∷ place_name p ∷ number_if (whose p) ∷ codes "</title></rect>\n" ∷ [])

abbrev pub home_text : ℕ → ℕ → List ℕ
home_text column word =
    joined (codes "<text class='small' x='" ∷ decimal (step_x column) ∷ codes "' y='57'><title>the home word is " ∷ decimal word ∷ codes "</title>" ∷ decimal word ∷ codes "</text>\n" ∷ [])

abbrev pub word_text : ℕ → ℕ → Entry → List ℕ
word_text column node e =
    joined (codes "<text class='small' x='" ∷ decimal (step_x column) ∷ codes "' y='" ∷ decimal (step_y node - 11) ∷ codes "'><title>the entry of node " ∷ decimal node ∷ codes " is " ∷ [])
    ++ entry_words e ++ codes "</title>" ++ entry_words e ++ codes "</text>\n"

abbrev pub act_text : ℕ → Event → Option Told → List ℕ
act_text column e what = sign_begin scale.Steps (node_of e) column (sign_at what) ++ told_words column e what ++ sign_end scale.Steps column (step_verb e)

abbrev pub step_shape_text : StepShape → List ℕ
step_shape_text (Lane row columns) = lane_text scale.Steps row columns
step_shape_text (Name row column) = name_text scale.Steps row column row
step_shape_text (Number column) = number_text scale.Steps column (column + 1)
step_shape_text (At node start end p) = at_text node start end p
step_shape_text (Lies column p) = lies_text column p
step_shape_text (Home column word) = home_text column word
step_shape_text (Word column node e) = word_text column node e
step_shape_text (Act column e what) = act_text column e what

abbrev pub step_texts : List StepShape → List ℕ
step_texts shapes = flat_map step_shape_text shapes
