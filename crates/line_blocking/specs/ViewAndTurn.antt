-- The two parts of a port that the definitions of this crate use: what the port knows about the line (its view), and
-- what the port has written in its turn.
use Rattle.qolb_model.specs.declared.view.View.{View}
use Rattle.qolb_model.specs.declared.write.Write.{Write}
use Rattle.qolb_model.specs.Whole.{ViewAndTurn}

-- a port's view with its turn, by the functions `view` and `turn` of its line
abbrev pub view_and_turn : {P : Type 0} → (P → View) → (P → Write) → P → ViewAndTurn
view_and_turn view turn port = record { view = view port; turn = turn port }
