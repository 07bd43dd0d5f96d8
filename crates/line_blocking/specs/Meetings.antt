-- Defines when all ports of a list have met each other, which means that they have merged what they know about their
-- line. The definitions in this file were made for this project; none is taken from the literature.
use Rattle.std.specs.Prelude.{ℕ, ◌+◌, List}
use Rattle.qolb_model.specs.Rounds.{MeetsOthers}
use Rattle.qolb_model.specs.Whole.{ViewAndTurn}

-- `HaveMet allows old n new` says that each of the first n ports has met all the others, and that `new` is what all
-- ports then know
pub data HaveMet (allows : List ℕ → List ℕ → Type 0) (old : List ViewAndTurn) : ℕ → List ViewAndTurn → Type 0 where
  nobody : HaveMet allows old 0 old
  another : {n : ℕ} {now later : List ViewAndTurn} → HaveMet allows old n now → MeetsOthers allows n now later → HaveMet allows old (n + 1) later
