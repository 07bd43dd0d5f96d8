-- How a command changes a line when a node executes the command through the node's port. A port is the handle through
-- which one node uses a shared line.
use Rattle.std.specs.Prelude.{◌≡◌, ℕ, ◌+◌, true, false, List, Some, slice_get, slice_set}
use Rattle.qolb_model.specs.declared.answer.Enq.{Enq}
use Rattle.qolb_model.specs.declared.answer.Poll.{Poll}
use Rattle.qolb_model.specs.declared.answer.Out.{Out}
use Rattle.qolb_model.specs.OneOwner.{turn_after}
use Rattle.qolb_model.specs.Calls.{Enqueues, Polls, Withdraws, Releases}
use Rattle.qolb_model.specs.Whole.{ViewAndTurn}
use Rattle.qolb_model.specs.Rounds.{MeetsOthers}
use Rattle.qolb_script.specs.declared.command.Command.{Command}
use Rattle.qolb_script.specs.declared.command.Command.TheVariants as command
use Rattle.qolb_script.specs.declared.reply_text.Said.{Said}
use Rattle.qolb_script.specs.declared.reply_text.Said.TheVariants as said
use Rattle.qolb_script.specs.Commands.{node_of}
use Rattle.qolb_script.specs.Reply.{is_allowed}

-- the data invariant of a replayed line, which allows every change
abbrev pub all_allowed : List ℕ → List ℕ → Type 0
all_allowed old new = Unit {0}

-- the effect of an allowed command
abbrev pub Promises : Command → Said → ViewAndTurn → ViewAndTurn → Type 0
Promises (command.Enq node line) what old new = (answer : Enq) × (what ≡ said.Enq answer) × Enqueues all_allowed old.view new.view new.turn answer
Promises (command.Poll node line) what old new = (answer : Poll) × (what ≡ said.Poll answer) × Polls all_allowed old.view new.view new.turn answer
Promises (command.Show node line) what old new = (what ≡ said.Bytes old.turn.bytes) × (new ≡ old)
Promises (command.Deq node line) what old new = (what ≡ said.Released) × Releases all_allowed false old.view new.view old.turn
Promises (command.Out node line) what old new = (answer : Out) × (what ≡ said.Out answer) × Withdraws all_allowed old.view new.view new.turn answer
Promises (command.Shut node line) what old new = (what ≡ said.Shut) × Releases all_allowed true old.view new.view old.turn
Promises (command.Write node line mask bytes) what old new = (what ≡ said.Written) × (new.view ≡ old.view) × (new.turn ≡ turn_after old.turn mask.0 bytes.bytes)

-- A command that is not allowed is misuse, and does not change anything.
pub record Calls (c : Command) (what : Said) (old new : ViewAndTurn) : Type 0 where
  pub allowed : is_allowed old.view.state c ≡ true → Promises c what old new
  pub refused : is_allowed old.view.state c ≡ false → (what ≡ said.Misuse) × (new ≡ old)

-- the port of the node met all other ports, executed the command, and met all other ports again
pub record AnswersByPort (c : Command) (what : Said) (old new : List ViewAndTurn) : Type 0 where
  pub place : ℕ
  pub of_node : place + 1 ≡ node_of c
  pub met : List ViewAndTurn
  pub before : MeetsOthers all_allowed place old met
  pub port : ViewAndTurn
  pub at : slice_get met place ≡ Some port
  pub port_then : ViewAndTurn
  pub calls : Calls c what port port_then
  pub after : MeetsOthers all_allowed place (slice_set met place port_then) new
