-- The states of ports that the tests of programs rely on: the port may make a request, or it waits or holds the line.
-- The definitions in this file were made for this project; none is taken from the literature.
use Rattle.std.specs.Prelude.{◌≡◌, ◌⊎◌, IsTrue}
use Rattle.qolb_model.specs.declared.answer.PortState.TheVariants.{Queued, Holding}
use Rattle.qolb_model.specs.declared.view.View.{View}
use Rattle.qolb_model.specs.PortStates.{may_ask}

-- a port of the line that may make a request
abbrev pub MayAskFor : {Line Port : Type 0} → (Line → Port → Type 0) → (Port → View) → Line → Port → Type 0
MayAskFor belongs view line port = belongs line port × IsTrue (may_ask (view port).state)

-- a port of the line that holds the line or waits for it
abbrev pub HoldsOrWaits : {Line Port : Type 0} → (Line → Port → Type 0) → (Port → View) → Line → Port → Type 0
HoldsOrWaits belongs view line port = belongs line port × (((view port).state ≡ Holding) ⊎ ((view port).state ≡ Queued))
