use Rattle.qolb_locks.proofs.exports.qolb_core_check_open_proved_.Goals as goal

pub returns-clause-known : goal.returns-clause-known
returns-clause-known c = (c.get.result.now, c.get.ensures, c.check_open.ensures.known)

pub returns-clause-misuse : goal.returns-clause-misuse
returns-clause-misuse c = (c.get.result.now, c.check_open.result, c.get.ensures, c.number.ensures, c.check_open.ensures.misuse)

pub returns-clause-does : goal.returns-clause-does
returns-clause-does c = (c.get.result.now, c.check_open.result, c.get.ensures, c.number.ensures, c.check_open.ensures.does)
