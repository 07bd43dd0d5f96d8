-- The ports that the tests use: each belongs to the line and may make a request. The definitions in this file were made
-- for this project; none is taken from the literature.
use Rattle.std.specs.Prelude.{IsTrue}
use Rattle.qolb_model.specs.declared.view.View.{View}
use Rattle.qolb_model.specs.PortStates.{may_ask}

-- a port that belongs to the line, and may make a request
abbrev pub MayAsk : {Port : Type 0} → (Port → Type 0) → (Port → View) → Port → Type 0
MayAsk belongs view port = belongs port × IsTrue (may_ask (view port).state)
