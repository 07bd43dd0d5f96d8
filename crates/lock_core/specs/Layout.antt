-- The layout of a lock, as the contracts use it: what each word contains, and how it is packed. This file restates some
-- of the numbers that `src/layout.rt` defines for the code.
use Rattle.std.specs.Prelude.{◌≡◌, ℕ, ◌+◌, ◌-◌, ◌/◌, ◌%◌}
use Rattle.atomic_table.specs.Seated.{TableId}

-- the words of a lock's table: the lock word, fifteen words that are never written, the tail, and four cells
abbrev pub HasLockWords : TableId → Type 0
HasLockWords table = table.words ≡ 21

-- the table of a lock without a value, or of a lock with a value in the table's slot
abbrev pub IsLockTable : TableId → Type 0
IsLockTable table = HasLockWords table × (table.slots ≡ 0)

abbrev pub IsValueTable : TableId → Type 0
IsValueTable table = HasLockWords table × (table.slots ≡ 1)

abbrev pub lock_word_at : ℕ
lock_word_at = 0

abbrev pub tail_at : ℕ
tail_at = 16

-- the number of the word of a ticket's cell, and the ticket's bit in it
abbrev pub cell_at : ℕ → ℕ
cell_at ticket = 17 + ticket % 4

abbrev pub bit_of : ℕ → ℕ
bit_of ticket = ticket / 4 % 16

-- the granted rounds of a cell, modulo 2 ^ 30, and how many sleepers the cell counts
abbrev pub rounds_of : ℕ → ℕ
rounds_of cell = cell / 17179869184

abbrev pub count_of : ℕ → ℕ
count_of cell = cell / 65536 % 65536

-- the lock word's bits: whether a handoff is requested, and whether the queue head sleeps there
abbrev pub handoff_of : ℕ → ℕ
handoff_of lock_word = lock_word % 2

abbrev pub asleep_of : ℕ → ℕ
asleep_of lock_word = lock_word / 2 % 2

-- the state of the lock word: 0 is free, 1 is held, 2 is reserved for the queue head
abbrev pub state_of : ℕ → ℕ
state_of lock_word = lock_word / 4 % 4

-- whether the lock is shut, according to the lock word
abbrev pub shut_of : ℕ → ℕ
shut_of lock_word = lock_word / 16 % 2

-- how many newcomers the lock word counts since the last queue head
abbrev pub came_of : ℕ → ℕ
came_of lock_word = lock_word / 32

-- how many rounds are granted in a ticket's cell once all tickets up to `turn` are granted
abbrev pub rounds : ℕ → ℕ → ℕ
rounds turn ticket = (turn + 4 - ticket % 4) / 4

-- how many rounds must be granted before the ticket is at its turn, according to the word of its cell
abbrev pub to_go : ℕ → ℕ → ℕ
to_go cell ticket = (ticket / 4 + 1 + 1073741824 - rounds_of cell) % 1073741824

-- The limits of a lock, as `src/layout.rt` has them, in the order of the definitions:
-- - the most sleepers that a cell counts;
-- - the most rounds before the turn of a request that can still be withdrawn;
-- - the most requests that one release passes;
-- - the greatest barging limit;
-- - the widest window of `draw_within`, and the most tickets that it draws.
abbrev pub max_sleepers : ℕ
max_sleepers = 65535

abbrev pub withdrawal_window : ℕ
withdrawal_window = 15

abbrev pub max_passed : ℕ
max_passed = 64

abbrev pub max_barging_limit : ℕ
max_barging_limit = 65535

abbrev pub max_window : ℕ
max_window = 134217728

abbrev pub max_tickets : ℕ
max_tickets = 9223372036854775808
