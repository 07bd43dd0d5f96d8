-- The numbers that represent answers and states in C code. The definitions in this file were made for this project;
-- none is taken from the literature.
use Rattle.std.specs.Prelude.{ℕ}
use Rattle.qolb_model.specs.declared.answer.PortState.{PortState}
use Rattle.qolb_model.specs.declared.answer.PortState.TheVariants as state
use Rattle.qolb_nodes.specs.declared.answer.Answer.{Answer}
use Rattle.qolb_nodes.specs.declared.answer.Answer.TheVariants as answer

-- the number of an answer
abbrev pub number_of : Answer → ℕ
number_of answer.Done = 0
number_of answer.Granted = 1
number_of answer.Queued = 2
number_of answer.Waiting = 3
number_of answer.Linking = 4
number_of answer.Withdrawn = 5
number_of answer.Closed = 6
number_of answer.Busy = 7
number_of answer.Misuse = 8
number_of answer.NoMemory = 9
number_of answer.BadNodes = 10
number_of answer.BadLease = 11
number_of answer.BadKind = 12
number_of answer.TooFew = 13
number_of answer.Occupied = 14

-- the number of a node's state; a handle without a node has the number 0
abbrev pub state_number : PortState → ℕ
state_number state.Idle = 1
state_number state.Linking = 2
state_number state.Queued = 3
state_number state.Holding = 4
state_number state.Left = 5
state_number state.Rolled = 6
state_number state.Shut = 7
