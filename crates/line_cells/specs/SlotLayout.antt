-- The slots of an array lock, which store the bytes of the line. An array lock has one slot for all turns, for example,
-- or one slot for each cell.
use Rattle.std.specs.Prelude.{◌≡◌, ◌<◌, ℕ, List, [], ◌∷◌, Bool, false, Option, None}
use mathlib.Core.Option.{some}
use mathlib.Core.Option as maybe
use lib.ListN.{get_elem?}
use Rattle.line_generic.specs.declared.table.Payload.{Payload}
use Rattle.line_generic.specs.Slots.{Slots}
use Rattle.line_cells.specs.declared.layout.TheConstants.{CELLS}
use Rattle.std.proofs.Common.{lit<}

-- the slots of a table: each is at home, with its payload, or in a node's seat
abbrev pub Homes : Type 0
Homes = List (maybe.Option Payload)

-- A slot that the line was in before, or never. It says nothing of turns if the line has no lease, and it is open while
-- the line is. The arguments are the turns left and the closed mark of the line.
pub record IsBehind (left : Option ℕ) (closed : Bool) (z : Payload) : Type 0 where
  pub turns : left ≡ None → z.turns_left ≡ None
  pub is_open : closed ≡ false → z.closed ≡ false

-- the slot is at home, and behind the line
abbrev pub IsSpare : Option ℕ → Bool → Homes → ℕ → Type 0
IsSpare left closed homes k = (y : Payload) × (get_elem? homes k ≡ some (some y)) × IsBehind left closed y

-- The slots of a kind of line:
-- - the numbers of its cells and slots;
-- - for each number of ended requests, the slot of the line while no node has it, and the slots that are out while some
--   node does;
-- - the slots of a node to which this payload was granted, and of a node that has stored it for its successor.
pub record SlotLayout : Type 1 where
  pub cells : ℕ
  pub some_cells : 0 < cells
  pub count : ℕ
  pub home_slot : ℕ → ℕ
  pub is_out : ℕ → ℕ → Type 0
  pub slots_at_grant : ℕ → Payload → Slots → Type 0
  pub slots_at_release : ℕ → Payload → Slots → Type 0

-- one slot for all turns
abbrev pub one_slot : SlotLayout
one_slot = record {
  cells = CELLS;
  some_cells = lit< tt;
  count = 1;
  home_slot = λ _. 0;
  is_out = λ _ _. Unit {0};
  slots_at_grant = λ _ y slots. slots ≡ (0, y) ∷ [];
  slots_at_release = λ _ y slots. slots ≡ (0, y) ∷ [];
}
