-- Ports in tests. If a port has the label of the line under test, it must belong to this line. The definitions in this
-- file were made for this project; none is taken from the literature.
use Rattle.std.specs.Prelude.{◌≡◌, ℕ, List}
use Rattle.std.specs.List.{All}
use Rattle.qolb_model.specs.declared.view.View.{View}

-- the port belongs to the line if it has the line's label
abbrev pub IsTheirs : {Line Port : Type 0} → (Line → Port → Type 0) → (Port → View) → (Line → ℕ) → Line → Port → Type 0
IsTheirs belongs view label_of line port = (view port).label ≡ label_of line → belongs line port

-- each of the ports belongs to the line if it has the line's label
abbrev pub AreTheirs : {Line Port : Type 0} → (Line → Port → Type 0) → (Port → View) → (Line → ℕ) → Line → List Port → Type 0
AreTheirs belongs view label_of line ports = All (IsTheirs belongs view label_of line) ports
