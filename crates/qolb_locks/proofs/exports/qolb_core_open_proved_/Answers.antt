use Rattle.qolb_locks.proofs.exports.qolb_core_open_proved_.Goals as goal

pub returns : goal.returns
returns c = (c.open.result, c.number.ensures, c.open.ensures.does, c.open.ensures.unchanged)
