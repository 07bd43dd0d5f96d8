-- The state of new desks on lines that were just opened. The definitions in this file were made for this project; none
-- is taken from the literature.
use Rattle.std.specs.Prelude.{◌≡◌, ℕ, ◌<◌, ◌≤◌, List, [], ◌∷◌, ◌++◌, All, Vec, vec_len, slice_get, Some}
use Rattle.std.specs.Global.{Global}
use Rattle.qolb_model.specs.declared.answer.PortState.TheVariants.{Idle}
use Rattle.qolb_model.specs.declared.view.View.{View}
use Rattle.line_accounts.specs.declared.answer.OpenDesksError.{OpenDesksError}
use Rattle.line_accounts.specs.declared.answer.OpenDesksError.TheVariants.{Memory, Few}
use Rattle.line_accounts.specs.Desks.{DeskOf, AreOver}

-- a port of the line that has made no request
pub record IsNewPort {Line Port : Type 0} (belongs : Line → Port → Type 0) (view : Port → View) (line : Line) (port : Port) : Type 0 where
  pub of_line : belongs line port
  pub idle : (view port).state ≡ Idle
  pub never : (view port).count ≡ 0

-- port i is of line i, and no port has made a request
pub record IsColumn {Line Port : Type 0} (belongs : Line → Port → Type 0) (view : Port → View) (lines : List Line) (ports : List Port) : Type 0 where
  pub over : AreOver belongs lines ports
  pub unused : All (λ port. ((view port).state ≡ Idle) × ((view port).count ≡ 0)) ports

-- nothing was paid at the desk
pub record IsUnpaid {Port : Type 0} (desk : DeskOf Port) : Type 0 where
  pub paid_in : desk.paid_in ≡ 0
  pub paid_out : desk.paid_out ≡ 0

-- Desk k has the ports of one node: its port of each line is the line's port at place k. If the line was just opened,
-- that is the port of node k + 1.
abbrev pub AreDealt : {Line Port : Type 0} → List (Line × Vec Port Global) → List (DeskOf Port) → Type 0
AreDealt {Line} {Port} opened desks = (k i : ℕ) (desk : DeskOf Port) (line : Line × Vec Port Global) → slice_get desks k ≡ Some desk → slice_get opened i ≡ Some line → slice_get desk.ports i ≡ slice_get line.1.items k

-- list k has one more port, which is the port at place k
abbrev pub GainEach : {Port : Type 0} → List Port → List (Vec Port Global) → List (Vec Port Global) → Type 0
GainEach {Port} ports old new = (k : ℕ) (column_then : Vec Port Global) → slice_get new k ≡ Some column_then
    → (column : Vec Port Global) × (port : Port) × (slice_get old k ≡ Some column) × (slice_get ports k ≡ Some port) × (column_then.items ≡ column.items ++ port ∷ [])

module _ {Line Port : Type 0} (count : ℕ) (opened : List (Line × Vec Port Global)) where
  -- each line has a port for each of `count` desks
  abbrev pub AreEnough : Type 0
  AreEnough = All (λ line. count ≤ vec_len line.1) opened

  -- line i is the smallest line that has too few ports
  pub record IsFirstShort (i : ℕ) : Type 0 where
    pub line : Line × Vec Port Global
    pub at : slice_get opened i ≡ Some line
    pub short : vec_len line.1 < count
    pub before : (j : ℕ) (other : Line × Vec Port Global) → j < i → slice_get opened j ≡ Some other → count ≤ vec_len other.1

  -- why there are no desks: a line has too few ports; or, only if no line has too few, lack of memory
  abbrev pub MayHaveNoDesks : OpenDesksError → Type 0
  MayHaveNoDesks (Few i) = IsFirstShort i
  MayHaveNoDesks Memory = AreEnough
