-- The kinds of lines, with the name of each kind on command lines, and the amount of memory that the table of a line
-- takes. The definitions in this file were made for this project; none is taken from the literature.
use Rattle.std.specs.Prelude.{if◌then◌else◌, List, [], ◌∷◌, Option, Some, None, codes, ℕ, ◌+◌, ◌*◌}
use Rattle.std.specs.Str.{bytes_eq}
use Rattle.line_cells.specs.Counting.{cells_for}
use Rattle.ring_line.specs.Layout as ring
use Rattle.link_line.specs.Layout as link
use Rattle.ticket_line.specs.Layout as ticket
use Rattle.ticket_line.specs.Slots as slots
use Rattle.line_kinds.specs.declared.Lock.{Lock}
use Rattle.line_kinds.specs.declared.Lock.TheVariants as lock

-- the locks' names
abbrev pub lock_names : List (List ℕ)
lock_names = codes "ring" ∷ codes "link" ∷ codes "ticket" ∷ []

-- the kind of this name, if there is one
abbrev pub lock_named : List ℕ → Option Lock
lock_named name =
    if bytes_eq name (codes "ring") then Some lock.Ring else if bytes_eq name (codes "link") then Some lock.Link else if bytes_eq name (codes "ticket") then Some lock.Ticket else None

-- the numbers of words and slots of the table of a line of n nodes, as its kind says
abbrev pub words_of : Lock → ℕ → ℕ
words_of lock.Ring nodes = ring.word_count
words_of lock.Link nodes = link.word_count nodes
words_of lock.Ticket nodes = ticket.word_count nodes

abbrev pub slots_of : Lock → ℕ → ℕ
slots_of lock.Ring nodes = 1
slots_of lock.Link nodes = 1
slots_of lock.Ticket nodes = slots.slot_count nodes

-- The number of bytes of these together. For 2 nodes it is 32,896 in a ring, 512 in a link line, and 1,024 in a ticket
-- line. For 200 nodes it is the same in a ring, 25,856 in a link line, and 65,536 in a ticket line.
abbrev pub bytes_of : Lock → ℕ → ℕ
bytes_of lock.Ring nodes = 32896
bytes_of lock.Link nodes = 128 * (nodes + 2)
bytes_of lock.Ticket nodes = 256 * cells_for nodes
