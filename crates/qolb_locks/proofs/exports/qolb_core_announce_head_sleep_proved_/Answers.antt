use Rattle.qolb_locks.proofs.exports.qolb_core_announce_head_sleep_proved_.Goals as goal

pub returns-clause-known : goal.returns-clause-known
returns-clause-known c = (c.get.result.now, c.get.ensures, c.announce_head_sleep.ensures.known)

pub returns-clause-misuse : goal.returns-clause-misuse
returns-clause-misuse c = (c.get.result.now, c.announce_head_sleep.result, c.get.ensures, c.number.ensures, c.announce_head_sleep.ensures.misuse)

pub returns-clause-does : goal.returns-clause-does
returns-clause-does c = (c.get.result.now, c.announce_head_sleep.result, c.get.ensures, c.number.ensures, c.announce_head_sleep.ensures.does)
