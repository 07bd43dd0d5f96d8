use Rattle.qolb_locks.proofs.exports.qolb_core_draw_proved_.Goals as goal

pub returns-clause-known : goal.returns-clause-known
returns-clause-known c = (c.get.result.now, c.get.ensures, c.draw.ensures.known)

pub returns-clause-misuse : goal.returns-clause-misuse
returns-clause-misuse c = (c.get.result.now, c.draw.result, c.get.ensures, c.number.ensures, c.draw.ensures.misuse)

pub returns-clause-does : goal.returns-clause-does
returns-clause-does c = (c.get.result.now, c.draw.result, c.get.ensures, c.number.ensures, c.draw.ensures.does)

pub returns-clause-after : goal.returns-clause-after
returns-clause-after c = (c.get.result.now, c.draw.result, c.get.ensures, c.number.ensures, c.draw.ensures.after)

pub returns-clause-kept : goal.returns-clause-kept
returns-clause-kept c = (c.get.result.now, c.draw.result, c.get.ensures, c.number.ensures, c.draw.ensures.kept)
