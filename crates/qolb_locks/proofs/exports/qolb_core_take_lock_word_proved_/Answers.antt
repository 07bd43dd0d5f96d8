use Rattle.qolb_locks.proofs.exports.qolb_core_take_lock_word_proved_.Goals as goal

pub returns-clause-known : goal.returns-clause-known
returns-clause-known c = (c.get.result.now, c.get.ensures, c.take_lock_word.ensures.known)

pub returns-clause-misuse : goal.returns-clause-misuse
returns-clause-misuse c = (c.get.result.now, c.take_lock_word.result, c.get.ensures, c.number.ensures, c.take_lock_word.ensures.misuse)

pub returns-clause-does : goal.returns-clause-does
returns-clause-does c = (c.get.result.now, c.take_lock_word.result, c.get.ensures, c.number.ensures, c.take_lock_word.ensures.does)

pub returns-clause-same : goal.returns-clause-same
returns-clause-same c = (c.get.result.now, c.take_lock_word.result, c.get.ensures, c.number.ensures, c.take_lock_word.ensures.same)
