-- The calls of a schedule on one line, in order, and the state of the line before each call. The definitions in this
-- file were made for this project; none is taken from the literature.
use Rattle.std.specs.Prelude.{ℕ, ◌+◌, ◌==◌, if◌then◌else◌, List, [], ◌∷◌, ◌++◌, map, filter, fold, Option, slice_get}
use Rattle.std.specs.List.{list_any, range_with_len}
use Rattle.qolb_model.specs.declared.config.LineConfig.{LineConfig}
use Rattle.qolb_model.specs.OneOwner.{OwnerState, opened, state_of}
use Rattle.qolb_script.specs.declared.command.Command.{Command}
use Rattle.qolb_script.specs.Commands.{node_of, line_of}
use Rattle.qolb_script.specs.Script.{Script}
use Rattle.qolb_model.specs.Histories.{open_of}
use Rattle.qolb_script.specs.Reply.{config_of, said_of, after_command, is_told}
use Rattle.qolb_draw.specs.declared.event.Event.{Event}
use Rattle.qolb_draw.specs.declared.symbol.Change.{Change}
use Rattle.qolb_draw.specs.declared.symbol.Symbol.{Symbol}
use Rattle.qolb_draw.specs.Marks.{mark_of}

-- the nodes whose requests have not ended yet, oldest request first; and the first of these nodes, whose turn has come
abbrev pub waiting_nodes : OwnerState → List ℕ
waiting_nodes s = map (λ r. r.node) (open_of s.queue.order s.queue.ends)

abbrev pub turn_node : OwnerState → Option ℕ
turn_node s = slice_get (waiting_nodes s) 0

-- the change that a command makes: the answer to its node, whether the node is told that the line is closed, and whose
-- turn it is before and after the command
abbrev pub change_of : OwnerState → Command → Change
change_of s c = record {
  node = node_of c;
  said = said_of s c;
  told = is_told (said_of s c);
  before = turn_node s;
  after = turn_node (after_command s c);
}

-- a command on the line, with its number in the script, counted from 1, and with the line's state before the command
pub record Step : Type 0 where
  pub number : ℕ
  pub command : Command
  pub before : OwnerState

-- the mark of a node after the command
abbrev pub mark_at : Step → ℕ → Symbol
mark_at step n = mark_of (change_of step.before step.command) (state_of (after_command step.before step.command) n) n

-- the command, with its change
abbrev pub event_of : Step → Event
event_of step = record { number = step.number; command = step.command; change = change_of step.before step.command }

-- the number of executed commands of the script, the state of the line, and the commands on the line
pub record LineRun : Type 0 where
  pub done : ℕ
  pub now : OwnerState
  pub steps : List Step

abbrev pub run_start : LineConfig → LineRun
run_start config = record { done = 0; now = opened config; steps = [] }

-- a command on the line is executed; a command on another line only increases the number of commands
abbrev pub run_step : ℕ → LineRun → Command → LineRun
run_step line run c =
    if line_of c == line
    then record { done = run.done + 1; now = after_command run.now c; steps = run.steps ++ record { number = run.done + 1; command = c; before = run.now } ∷ [] }
    else record run { done = run.done + 1 }

abbrev pub run_of : ℕ → Script → LineRun
run_of line script = fold (run_step line) (run_start (config_of script)) script.commands

abbrev pub steps_on : ℕ → Script → List Step
steps_on line script = (run_of line script).steps

-- the nodes that call on the line
abbrev pub callers : ℕ → List Step → List ℕ
callers nodes steps = filter (λ n. list_any (λ step. node_of step.command == n) steps) (range_with_len 1 nodes)
