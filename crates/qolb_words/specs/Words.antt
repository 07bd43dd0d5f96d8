-- The words that name the commands of a schedule, the events of a step script, and the points of the lock algorithm at
-- which a node can be. The definitions in this file were made for this project; none is taken from the literature.
use Rattle.std.specs.Prelude.{ℕ, ◌++◌, Bool, true, false, List, [], codes, decimal, flat_map, Option, Some, None}
use Rattle.qolb_words.specs.declared.Piece.{Piece}
use Rattle.qolb_words.specs.declared.Piece.TheVariants.{Words, Number, Maybe}
use Rattle.link_core.specs.declared.event.Event.{Event}
use Rattle.link_core.specs.declared.event.Event.TheVariants as event
use Rattle.link_core.specs.declared.point.Point.{Point}
use Rattle.link_core.specs.declared.point.Point.TheVariants as point
use Rattle.qolb_script.specs.declared.command.Command.{Command}
use Rattle.qolb_script.specs.declared.command.Command.TheVariants.{Enq, Poll, Show, Deq, Out, Shut, Write}
use Rattle.qolb_script.specs.declared.reply_text.Said.{Said}
use Rattle.qolb_script.specs.declared.reply_text.Said.TheVariants as said

-- the digits of a number, or nothing
abbrev pub number_if : Option ℕ → List ℕ
number_if None = []
number_if (Some n) = decimal n

-- the text of a piece, and the text of several texts one after another
abbrev pub piece_text : Piece → List ℕ
piece_text (Words words) = words.now
piece_text (Number n) = decimal n
piece_text (Maybe o) = number_if o

abbrev pub joined : List (List ℕ) → List ℕ
joined parts = flat_map (λ (part : List ℕ). part) parts

-- a text followed by a number
abbrev pub field : List ℕ → ℕ → List ℕ
field words n = words ++ decimal n

-- the answer says that the command is misuse
abbrev pub is_misuse : Said → Bool
is_misuse said.Misuse = true
is_misuse what = false

-- the first word of a command
abbrev pub verb_of : Command → List ℕ
verb_of (Enq node line) = codes "enq"
verb_of (Poll node line) = codes "poll"
verb_of (Show node line) = codes "show"
verb_of (Deq node line) = codes "deq"
verb_of (Out node line) = codes "out"
verb_of (Shut node line) = codes "shut"
verb_of (Write node line mask bytes) = codes "write"

-- the first word of an event
abbrev pub step_verb : Event → List ℕ
step_verb (event.Reset n) = codes "reset"
step_verb (event.Prepend n) = codes "prepend"
step_verb (event.Link n) = codes "link"
step_verb (event.Load n) = codes "load"
step_verb (event.Home n) = codes "home"
step_verb (event.Done n) = codes "done"
step_verb (event.Grant n) = codes "grant"
step_verb (event.Roll n) = codes "roll"
step_verb (event.Freed n) = codes "freed"
step_verb (event.Write n mask bytes) = codes "write"
step_verb (event.Close n) = codes "close"

-- some words, followed by a node if there is one
abbrev pub named : List ℕ → Option ℕ → List ℕ
named words None = words
named words (Some n) = field words n

-- the words for a point, and the node that the point names
abbrev pub point_name : Point → List ℕ
point_name point.Idle = codes "Idle"
point_name point.Ready = codes "Ready"
point_name (point.Linking n) = codes "Linking "
point_name point.Queued = codes "Queued"
point_name point.Holding = codes "Holding"
point_name (point.Leaving n) = codes "Leaving "
point_name (point.Marking n) = codes "Marking "
point_name (point.Granting n) = codes "Granting "
point_name point.Freeing = codes "Freeing"
point_name point.Left = codes "Left"
point_name point.Rolled = codes "Rolled"
point_name point.Shut = codes "Shut"

abbrev pub named_by : Point → Option ℕ
named_by (point.Linking n) = Some n
named_by (point.Leaving n) = Some n
named_by (point.Marking n) = Some n
named_by (point.Granting n) = Some n
named_by p = None

abbrev pub point_words : Point → List ℕ
point_words p = named (point_name p) (named_by p)
