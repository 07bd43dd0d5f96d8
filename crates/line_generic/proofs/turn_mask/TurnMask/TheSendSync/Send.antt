-- A `TurnMask` may be sent to another thread, because it owns nothing.
use denote.Param.Send.{IsSend, owning_send}
use Rattle.line_generic.specs.contracts.turn_mask.TurnMask.{the_row, the_type}

pub send : IsSend the_row
send = owning_send the_type tt (λ d. tt) (λ k x w. tt)
