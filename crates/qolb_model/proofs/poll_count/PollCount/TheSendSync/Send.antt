-- Proof that a `PollCount` may move to another thread, because it owns nothing.
use denote.Param.Send.{IsSend, owning_send}
use Rattle.qolb_model.specs.contracts.poll_count.PollCount.{the_row, the_type}

pub send : IsSend the_row
send = owning_send the_type tt (λ d. tt) (λ k x w. tt)
