-- What the numbers that C code reads about a lock's core mean. The definitions in this file were made for this project;
-- none is taken from the literature.
use Rattle.std.specs.Prelude.{◌≡◌, ℕ, ◌+◌, ◌/◌, ◌%◌, ◌^◌}
use Rattle.lock_core.specs.Layout as core
use Rattle.qolb_locks.specs.declared.answer.Answer.TheVariants as answer
use Rattle.qolb_locks.specs.declared.layout.Layout.{Layout}
use Rattle.qolb_locks.specs.declared.ticket.State.TheVariants as state
use Rattle.qolb_locks.specs.Exports as exports
use Rattle.qolb_locks.specs.Tickets as tickets

-- the numbers of the words, and the bits of a cell
pub record TellsCells (l : Layout) : Type 0 where
  pub lock_word : l.lock_word ≡ core.lock_word_at
  pub tail : l.tail_word ≡ core.tail_at
  pub cells : (ticket : ℕ) → core.cell_at ticket ≡ l.first_cell + ticket % l.cells
  pub rounds : (cell : ℕ) → core.rounds_of cell ≡ cell / 2 ^ l.rounds_bit
  pub sleepers : (cell : ℕ) → core.count_of cell ≡ cell / 2 ^ l.sleepers_bit % (l.max_sleepers + 1)

-- the bits of the lock word
pub record TellsLockWord (l : Layout) : Type 0 where
  pub handoff : (word : ℕ) → core.handoff_of word ≡ word / l.handoff % 2
  pub head_asleep : (word : ℕ) → core.asleep_of word ≡ word / l.head_asleep % 2
  pub held : (word : ℕ) → core.state_of word ≡ word / l.held % 4
  pub reserved : core.state_of l.reserved ≡ 2
  pub shut : (word : ℕ) → core.shut_of word ≡ word / l.shut % 2
  pub newcomer : (word : ℕ) → core.came_of word ≡ word / l.newcomer

-- the limits
pub record TellsLimits (l : Layout) : Type 0 where
  pub max_sleepers : l.max_sleepers ≡ core.max_sleepers
  pub max_barging_limit : l.max_barging_limit ≡ core.max_barging_limit
  pub withdrawal_window : l.withdrawal_window ≡ core.withdrawal_window
  pub max_passed : l.max_passed ≡ core.max_passed

-- the states of a ticket, and the answers that only a lock gives
pub record TellsStates (l : Layout) : Type 0 where
  pub free : l.state_free ≡ tickets.number_of state.Free
  pub waiting : l.state_waiting ≡ tickets.number_of state.Waiting
  pub asleep : l.state_asleep ≡ tickets.number_of state.Asleep
  pub at_turn : l.state_at_turn ≡ tickets.number_of state.AtTurn
  pub served : l.state_served ≡ tickets.number_of state.Served
  pub served_shut : l.state_served_shut ≡ tickets.number_of state.ServedShut
  pub ending : l.state_ending ≡ tickets.number_of state.Ending
  pub head_inside : l.state_head_inside ≡ tickets.number_of state.HeadInside
  pub head_inside_shut : l.state_head_inside_shut ≡ tickets.number_of state.HeadInsideShut
  pub inside : l.state_inside ≡ tickets.number_of state.Inside
  pub inside_shut : l.state_inside_shut ≡ tickets.number_of state.InsideShut

pub record TellsAnswers (l : Layout) : Type 0 where
  pub far : l.answer_far ≡ exports.number_of answer.Far
  pub asleep : l.answer_asleep ≡ exports.number_of answer.Asleep
  pub full : l.answer_full ≡ exports.number_of answer.Full
  pub unfinished : l.answer_unfinished ≡ exports.number_of answer.Unfinished
