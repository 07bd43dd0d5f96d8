use Rattle.qolb_locks.proofs.exports.qolb_core_withdraw_proved_.Goals as goal

pub returns-clause-known : goal.returns-clause-known
returns-clause-known c = (c.get.result.now, c.get.ensures, c.withdraw.ensures.known)

pub returns-clause-misuse : goal.returns-clause-misuse
returns-clause-misuse c = (c.get.result.now, c.withdraw.result, c.get.ensures, c.number.ensures, c.withdraw.ensures.misuse)

pub returns-clause-does : goal.returns-clause-does
returns-clause-does c = (c.get.result.now, c.withdraw.result, c.get.ensures, c.number.ensures, c.withdraw.ensures.does)

pub returns-clause-same : goal.returns-clause-same
returns-clause-same c = (c.get.result.now, c.withdraw.result, c.get.ensures, c.number.ensures, c.withdraw.ensures.same)
