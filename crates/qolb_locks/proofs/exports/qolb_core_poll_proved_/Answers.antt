use Rattle.qolb_locks.proofs.exports.qolb_core_poll_proved_.Goals as goal

pub returns-clause-known : goal.returns-clause-known
returns-clause-known c = (c.get.result.now, c.get.ensures, c.poll.ensures.known)

pub returns-clause-misuse : goal.returns-clause-misuse
returns-clause-misuse c = (c.get.result.now, c.poll.result, c.get.ensures, c.number.ensures, c.poll.ensures.misuse)

pub returns-clause-does : goal.returns-clause-does
returns-clause-does c = (c.get.result.now, c.poll.result, c.get.ensures, c.number.ensures, c.poll.ensures.does)

pub returns-clause-same : goal.returns-clause-same
returns-clause-same c = (c.get.result.now, c.poll.result, c.get.ensures, c.number.ensures, c.poll.ensures.same)

pub returns-clause-kept : goal.returns-clause-kept
returns-clause-kept c = (c.get.result.now, c.poll.result, c.get.ensures, c.number.ensures, c.poll.ensures.kept)
