-- The slots that a node's seat has taken from the table, and the conditions under which these slots contain the line.
use Rattle.std.specs.Prelude.{◌≡◌, ℕ, List, [], ◌∷◌, Option, false}
use Rattle.line_generic.specs.declared.table.LocalCopy.{LocalCopy}
use Rattle.line_generic.specs.declared.table.Payload.{Payload}

-- the slots of a seat, each with its payload
abbrev pub Slots : Type 0
Slots = List (ℕ × Payload)

-- all turns use one slot, which has the line
abbrev pub in_single_slot : ℕ → Payload → Slots → Type 0
in_single_slot token y slots = slots ≡ (0, y) ∷ []

-- while a holder has its copy, the payload in the single slot is open, with as many turns left
abbrev pub open_in_single_slot : ℕ → Option ℕ → Slots → Type 0
open_in_single_slot token left slots = (y : Payload) × (slots ≡ (0, y) ∷ []) × (y.closed ≡ false) × (y.turns_left ≡ left)

-- a copy of the granted line, in which nothing is written yet
pub record IsCopy (z : LocalCopy) (y : Payload) : Type 0 where
  pub bytes : z.bytes ≡ y.bytes
  pub turns : z.turns_left ≡ y.turns_left
  pub closed : z.closed ≡ y.closed
  pub no_mask : z.mask.bits ≡ 0
