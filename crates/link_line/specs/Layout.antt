-- The places of the words in the table of a link line, and the fields of the word that is a node's entry.
use Rattle.std.specs.Prelude.{◌≡◌, ℕ, ◌+◌, ◌*◌, ◌/◌, ◌%◌, ◌<◌, ◌≤◌, ◌==◌, Bool, true, false, List, slice_index}
use Rattle.qolb_model.specs.declared.config.TheConstants.{MAX_NODES}
use Rattle.link_core.specs.declared.entry.Entry.{Entry}
use Rattle.link_line.specs.declared.layout.TheConstants.{ENTRY_STRIDE, GRANTED, ROLLED, DONE, FREED, LINK_UNIT}

abbrev pub home_at : ℕ
home_at = 0

abbrev pub entry_at : ℕ → ℕ
entry_at n = ENTRY_STRIDE * n

-- the number of words of a list of n nodes: the home word, and an entry for each
abbrev pub word_count : ℕ → ℕ
word_count nodes = entry_at (nodes + 1)

-- the number of a node of a line of n nodes, or 0
abbrev pub IsWithin : ℕ → ℕ → Type 0
IsWithin nodes n = (n ≤ MAX_NODES) × (n ≤ nodes)

abbrev pub one_if : Bool → ℕ
one_if true = 1
one_if false = 0

-- the word of an entry
abbrev pub pack : Entry → ℕ
pack e = GRANTED * one_if e.granted + ROLLED * one_if e.rolled + DONE * one_if e.done + FREED * one_if e.freed + LINK_UNIT * e.link

-- the fields of an entry word
abbrev pub is_granted : ℕ → Bool
is_granted w = (w % 2) == 1

-- a node that waits on its entry with this lower half finds its turn, whatever its token is, because a link to the
-- entry is not a grant
abbrev pub signals_turn : ℕ → ℕ → Bool
signals_turn token low = is_granted low

abbrev pub is_rolled : ℕ → Bool
is_rolled w = (w / 2 % 2) == 1

abbrev pub is_done : ℕ → Bool
is_done w = (w / 4 % 2) == 1

abbrev pub is_freed : ℕ → Bool
is_freed w = (w / 8 % 2) == 1

abbrev pub link_of : ℕ → ℕ
link_of w = w / LINK_UNIT

-- the words of a new line are all 0
abbrev pub AreBlank : ℕ → List ℕ → Type 0
AreBlank nodes words = (i : ℕ) → i < word_count nodes → slice_index words i ≡ 0
