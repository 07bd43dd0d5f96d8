-- Which mark a picture shows for a node after a command. The mark depends on the node's state and on what the command
-- changed. The definitions in this file were made for this project; none is taken from the literature.
use Rattle.std.specs.Prelude.{ℕ, ◌==◌, ◌&&◌, not, Bool, true, false, if◌then◌else◌, Option, Some, None}
use Rattle.std.specs.Option.{option_map_or}
use Rattle.qolb_model.specs.declared.answer.PortState.{PortState}
use Rattle.qolb_model.specs.declared.answer.PortState.TheVariants as port
use Rattle.qolb_draw.specs.declared.symbol.Symbol.{Symbol}
use Rattle.qolb_draw.specs.declared.symbol.Symbol.TheVariants as symbol
use Rattle.qolb_draw.specs.declared.symbol.Change.{Change}
use Rattle.qolb_words.specs.Words.{is_misuse}
use Rattle.qolb_draw.specs.Shapes.{stand_of}
use Rattle.qolb_script.specs.declared.reply_text.Said.{Said}
use Rattle.qolb_script.specs.declared.reply_text.Said.TheVariants as said

-- the first argument is this node
abbrev pub is_node : Option ℕ → ℕ → Bool
is_node o n = option_map_or (λ m. m == n) o false

-- the turn passed from this node to another
abbrev pub is_handed_on : Option ℕ → Option ℕ → ℕ → Bool
is_handed_on None after n = false
is_handed_on (Some from) None n = false
is_handed_on (Some from) (Some to) n = (from == n) && not (to == n)

-- the mark of a node in this state if the command had no effect on the node; the second argument says whether the
-- node's turn has come
abbrev pub mark_of_state : PortState → Bool → Symbol
mark_of_state port.Idle turn = symbol.Idle
mark_of_state port.Linking turn = symbol.Waits
mark_of_state port.Queued turn = if turn then symbol.AtTurn else symbol.Waits
mark_of_state port.Holding turn = symbol.Holds
mark_of_state port.Left turn = symbol.Idle
mark_of_state port.Rolled turn = symbol.Withdrawn
mark_of_state port.Shut turn = symbol.Shut

-- the mark of node n; `mark` is the mark that the node has if the command is no misuse
abbrev pub unless_misuse : Change → Symbol → ℕ → Symbol
unless_misuse change mark n = if (change.node == n) && is_misuse change.said then symbol.Misuse (stand_of mark) else mark

-- the mark of node n, which is in this state after the command: `Told` if it made the command and was told that the
-- line is closed; otherwise `Gives` or `Takes` if the turn passed from it or to it; otherwise the mark of its state
abbrev pub effect_of : Change → PortState → ℕ → Symbol
effect_of change state n =
    if (change.node == n) && change.told then symbol.Told
    else if is_handed_on change.before change.after n then symbol.Gives
    else if is_handed_on change.after change.before n then symbol.Takes
    else mark_of_state state (is_node change.after n)

-- the same mark, or `Misuse` if node n made the command and the command was misuse
abbrev pub mark_of : Change → PortState → ℕ → Symbol
mark_of change state n = unless_misuse change (effect_of change state n) n
