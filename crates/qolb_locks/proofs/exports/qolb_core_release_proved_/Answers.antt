use Rattle.qolb_locks.proofs.exports.qolb_core_release_proved_.Goals as goal

pub returns-clause-known : goal.returns-clause-known
returns-clause-known c = (c.get.result.now, c.get.ensures, c.release.ensures.known)

pub returns-clause-misuse : goal.returns-clause-misuse
returns-clause-misuse c = (c.get.result.now, c.release.result, c.get.ensures, c.number.ensures, c.release.ensures.misuse)

pub returns-clause-does : goal.returns-clause-does
returns-clause-does c = (c.get.result.now, c.release.result, c.get.ensures, c.number.ensures, c.release.ensures.does)

pub returns-clause-kept : goal.returns-clause-kept
returns-clause-kept c = (c.get.result.now, c.release.result, c.get.ensures, c.number.ensures, c.release.ensures.kept)
