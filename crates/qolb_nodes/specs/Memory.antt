-- The amount of memory that is reported to C code for a line. The definitions in this file were made for this project;
-- none is taken from the literature.
use Rattle.std.specs.Prelude.{◌≡◌, ℕ, Some}
use Rattle.qolb_model.specs.Opening.{AreNodes}
use Rattle.line_kinds.specs.Locks.{bytes_of}
use Rattle.line_kinds.specs.declared.Lock.{Lock}
use Rattle.qolb_nodes.specs.Opens.{lines_at, IsKind}

-- the number of bytes of the table of a line of this kind for n nodes, or 0 if no such line is opened
pub record TellsMemory (kind nodes bytes : ℕ) : Type 0 where
  pub each : (lines : Lock) → lines_at kind ≡ Some lines → AreNodes nodes → bytes ≡ bytes_of lines nodes
  pub no_kind : ¬ IsKind kind → bytes ≡ 0
  pub no_nodes : ¬ AreNodes nodes → bytes ≡ 0
