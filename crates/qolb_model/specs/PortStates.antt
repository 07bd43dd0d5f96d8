-- The possible states of a port.
use Rattle.std.specs.Prelude.{Bool, true, false}
use Rattle.qolb_model.specs.declared.answer.PortState.{PortState}
use Rattle.qolb_model.specs.declared.answer.PortState.TheVariants.{Idle, Linking, Queued, Holding, Left, Rolled, Shut}

-- a node in this state neither waits nor holds, so it may make a request
abbrev pub may_ask : PortState → Bool
may_ask Idle = true
may_ask Linking = false
may_ask Queued = false
may_ask Holding = false
may_ask Left = true
may_ask Rolled = true
may_ask Shut = true

-- the state of a port after its turn, depending on whether that turn closed the line
abbrev pub state_after : Bool → PortState
state_after true = Shut
state_after false = Idle
