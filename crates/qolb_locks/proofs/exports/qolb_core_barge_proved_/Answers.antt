use Rattle.qolb_locks.proofs.exports.qolb_core_barge_proved_.Goals as goal

pub returns-clause-known : goal.returns-clause-known
returns-clause-known c = (c.get.result.now, c.get.ensures, c.barge.ensures.known)

pub returns-clause-strict : goal.returns-clause-strict
returns-clause-strict c = (c.get.result.now, c.barge.result, c.get.ensures, c.number.ensures, c.barge.ensures.strict)

pub returns-clause-misuse : goal.returns-clause-misuse
returns-clause-misuse c = (c.get.result.now, c.barge.result, c.get.ensures, c.number.ensures, c.barge.ensures.misuse)

pub returns-clause-does : goal.returns-clause-does
returns-clause-does c = (c.get.result.now, c.barge.result, c.get.ensures, c.number.ensures, c.barge.ensures.does)
